-- A decision by remembered summaries alone examines no access control entry.
use Rattle.std.proofs.Common.{◌≡◌, ℕ, ◌^◌, ◌<◌, ◌∙◌, Bool, true, false, ◌&&◌, ◌||◌, cond, List, [], ◌∷◌, ◌++◌, length, Some, None, refl, ap, subst, inl, inr, ◌⊎◌, arith}
use Rattle.std.specs.Prelude.{Option, All, MatchOption, IsSome}
use Rattle.std.specs.Option.{option_map, option_map_or}
use Rattle.std.specs.Map.{lookup, lookup_entry, remove_entry}
use Rattle.std.proofs.lemmas.Bool.Decides.{Decides-eqb}
use Rattle.std.proofs.lemmas.List.Elements.{All-nil, All-cons, All-head, All-tail}
use Rattle.lru.specs.LruCache.{promoted}
use Rattle.rpc_record.specs.Identity.{Identity}
use Rattle.acl_list.specs.Places as places
use Rattle.acl_list.specs.Deciding.{first_match, match_of}
use Rattle.acl_list.specs.Verdicts.{verdict, verdict_on_bit}
use Rattle.acl_list.specs.Summaries.{watched_bits}
use Rattle.acl_list.specs.declared.mask.TheConstants.{DELETE, DELETE_CHILD, WRITE_ATTRIBUTES, WRITE_DATA}
use Rattle.acl_list.specs.declared.answer.Summary.{Summary}
use Rattle.acl_list.specs.declared.answer.Verdict.{Verdict}
use Rattle.acl_list.specs.declared.answer.Verdict.TheVariants as verdicts
use Rattle.acl_list.specs.declared.answer.FirstMatch.{FirstMatch}
use Rattle.acl_list.specs.declared.answer.FirstMatch.TheVariants.{Unmatched}
use Rattle.acl_list.proofs.Covering.{granted_iff_covered}
use Rattle.acl_list.proofs.Watching.{unwatched_iff}
use Rattle.acl_list.proofs.OneBit.{verdict-bit}
use Rattle.node_tree.specs.Judged.{Judged}
use Rattle.access_rows.specs.declared.demand.Demand.{Demand}
use Rattle.access_rows.specs.declared.demand.Demand.TheVariants.{Bits, Removal, ServerTime}
use Rattle.access_guard.specs.declared.memory.Key.{Key}
use Rattle.access_guard.specs.Asker.{Asker, member_of}
use Rattle.access_guard.specs.Keys.{is_key}
use Rattle.access_guard.specs.Lists.{Lists, names, sum_of, grants, is_quiet}
use Rattle.access_guard.specs.Memory.{Memory, LooksUp, LooksUpFor, Decides, key_of, examined_more, used, learnt, is_silent_grant, is_silent_removal, is_silent_time, time_bit, grants_silently, walked}
use Rattle.access_guard.specs.History.{looks_for}
use Rattle.access_guard.specs.SilentGrants.{IsAllow, IsAllowed, IsQuiet, AreHits}
use Rattle.access_guard.specs.Decisions.{is_granting, time_mask}
use Rattle.access_guard.proofs.SilentGrants.{Fits, mask_is_bit}

-- ---- the decision by a summary alone

both : (a b : Bool) → a ≡ true → b ≡ true → a && b ≡ true
both a b p q = rw p q

module _ (caller : Identity) (j : Judged) (mask : ℕ) (fits : mask < 2 ^ 32) where
  covers : verdict (names j caller) j.list mask ≡ verdicts.Granted → grants (sum_of j caller) mask ≡ true
  covers h = (Decides-eqb _ _).1 ((granted_iff_covered (names j caller) j.list mask fits).0 h)

  quiet : All (λ e. watched_bits (names j caller) places.successful mask e ≡ 0) j.list → is_quiet (sum_of j caller) mask ≡ true
  quiet h = (Decides-eqb _ _).1 ((unwatched_iff (names j caller) places.successful j.list mask fits).1 h)

-- if the first matching access control entry (ACE) of a bit is an ALLOW, the bit is granted
allow_grants : (caller : Identity) (j : Judged) (place : ℕ) → place < 32 → 2 ^ place < 2 ^ 32 → IsAllow (match_of (first_match (names j caller) j.list place)) → grants (sum_of j caller) (2 ^ place) ≡ true
allow_grants caller j place low fits allow = covers caller j (2 ^ place) fits (verdict-bit (names j caller) j.list place low ∙ ap (verdict_on_bit place) allow.1)

module _ (caller : Identity) where
  abbrev sum : Option Judged → Option Summary
  sum o = option_map (λ j. sum_of j caller) o

  abbrev Quiet : Option Judged → ℕ → Type 0
  Quiet o mask = MatchOption o ⊥ (λ j. All (λ e. watched_bits (names j caller) places.successful mask e ≡ 0) j.list)

  bits_silent : (o : Option Judged) (mask : ℕ) → mask < 2 ^ 32 → option_map_or (λ j. verdict (names j caller) j.list mask) o (verdicts.Missing 0) ≡ verdicts.Granted → Quiet o mask → is_silent_grant (sum o) mask ≡ true
  bits_silent None mask fits h q = absurd q
  bits_silent (Some j) mask fits h q = both _ _ (covers caller j mask fits h) (quiet caller j mask fits q)

  abbrev verdict_in : Option Judged → ℕ → Verdict
  verdict_in o mask = option_map_or (λ j. verdict (names j caller) j.list mask) o (verdicts.Missing 0)

  abbrev mask_in : Option Judged → ℕ
  mask_in o = time_mask (verdict_in o WRITE_ATTRIBUTES) (verdict_in o WRITE_DATA)

  mask_fits : (o : Option Judged) → mask_in o < 2 ^ 32
  mask_fits o = go (is_granting (verdict_in o WRITE_ATTRIBUTES)) (is_granting (verdict_in o WRITE_DATA))
    where
      go : (a b : Bool) → cond a WRITE_ATTRIBUTES (cond b WRITE_DATA WRITE_ATTRIBUTES) < 2 ^ 32
      go true b = omega arith
      go false true = omega arith
      go false false = omega arith

  time_silent : (o : Option Judged) → verdict_in o (mask_in o) ≡ verdicts.Granted → Quiet o (mask_in o) → is_silent_time (sum o) ≡ true
  time_silent None h q = absurd q
  time_silent (Some j) h q =
      let s = sum_of j caller in
      let g : grants s (mask_in (Some j)) ≡ true = covers caller j (mask_in (Some j)) (mask_fits (Some j)) h in
      let k : is_quiet s (mask_in (Some j)) ≡ true = quiet caller j (mask_in (Some j)) (mask_fits (Some j)) q in
      let same : mask_in (Some j) ≡ time_bit s = mask_is_bit caller j g in
      both _ _ (subst (λ m. grants s m ≡ true) same g) (subst (λ m. is_quiet s m ≡ true) same k)

  abbrev first_match_in : Option Judged → ℕ → FirstMatch
  first_match_in o place = option_map_or (λ j. match_of (first_match (names j caller) j.list place)) o Unmatched

  either_grants : (t p : Judged) → IsAllow (first_match_in (Some t) places.delete) ⊎ IsAllow (first_match_in (Some p) places.delete_child) → grants (sum_of t caller) DELETE || grants (sum_of p caller) DELETE_CHILD ≡ true
  either_grants t p (inl a) = rw (allow_grants caller t places.delete (omega arith) (omega arith) a) refl
  either_grants t p (inr a) = let e : grants (sum_of p caller) DELETE_CHILD ≡ true = allow_grants caller p places.delete_child (omega arith) (omega arith) a in go (grants (sum_of t caller) DELETE) e
    where
      go : (b : Bool) {c : Bool} → c ≡ true → b || c ≡ true
      go true e = refl
      go false e = e

  removal_silent : (t p : Option Judged) → IsAllow (first_match_in t places.delete) ⊎ IsAllow (first_match_in p places.delete_child) → Quiet t DELETE → Quiet p DELETE_CHILD → is_silent_removal (sum t) (sum p) ≡ true
  removal_silent None p h q r = absurd q
  removal_silent (Some t) None h q r = absurd r
  removal_silent (Some t) (Some p) h q r = both _ _ (either_grants t p h) (both _ _ (quiet caller t DELETE (omega arith) q) (quiet caller p DELETE_CHILD (omega arith) r))

-- ---- hits

picked : {V : Type 0} (prefix back : Bool) (v w : V) (rest old : Option V) → IsSome (cond back (Some w) old) → (IsSome old → IsSome (cond prefix (Some v) rest)) → IsSome (cond prefix (Some v) (cond back (Some w) rest))
picked true back v w rest old h more = refl
picked false true v w rest old h more = refl
picked false false v w rest old h more = more h

-- a remembered summary is still found after another key moved to the front
found_after : {K V : Type 0} (test p : K → Bool) (es : List (K × V)) (e : K × V) → lookup_entry test es ≡ Some e → IsSome (lookup p es) → IsSome (lookup p (e ∷ remove_entry test es))
found_after test p [] e at there = cc
found_after {K} {V} test p (f ∷ es) e at there = go (test f.0) (found_after test p es e) at
  where
    go : (b : Bool) → (lookup_entry test es ≡ Some e → IsSome (lookup p es) → IsSome (lookup p (e ∷ remove_entry test es))) → cond b (Some f) (lookup_entry test es) ≡ Some e
        → IsSome (lookup p (e ∷ cond b es (f ∷ remove_entry test es)))
    go true more is = let same : f ≡ e = cc in subst (λ (g : K × V). IsSome (lookup p (g ∷ es))) same there
    go false more is = picked (p e.0) (p f.0) e.1 f.1 (lookup p (remove_entry test es)) (lookup p es) there (more is)

found_promoted : {K V : Type 0} (test p : K → Bool) (es : List (K × V)) → IsSome (lookup p es) → IsSome (lookup p (promoted test es))
found_promoted {K} {V} test p es there = go (lookup_entry test es) refl
  where
    go : (o : Option (K × V)) → lookup_entry test es ≡ o → IsSome (lookup p (option_map_or (λ e. e ∷ remove_entry test es) o es))
    go None is = there
    go (Some e) is = found_after test p es e is there

-- the memory after a hit
record Left (old new : Memory) : Type 0 where
  examined : new.examined ≡ old.examined
  found : (key : Key) → IsSome (lookup (is_key key) old.remembered) → IsSome (lookup (is_key key) new.remembered)

hit : (j : Judged) (asker : Asker) (old new : Memory) → LooksUp j asker old new → IsSome (lookup (is_key (key_of j asker)) old.remembered) → Left old new
hit j asker old new step there = go (lookup (is_key (key_of j asker)) old.remembered) step there
  where
    go : (o : Option Summary) → MatchOption o ((new ≡ learnt (key_of j asker) (sum_of j (member_of asker)) (examined_more (length j.list) old)) ⊎ (new ≡ examined_more (length j.list) old)) (λ s. new ≡ used (key_of j asker) old) → IsSome o → Left old new
    go None h none = cc
    go (Some s) is some = rw is (record { examined = refl; found = λ key. found_promoted (is_key (key_of j asker)) (is_key key) old.remembered })

abbrev look : Asker → Option Judged → List (Key × Summary)
look asker o = option_map_or (λ j. (key_of j asker, sum_of j (member_of asker)) ∷ []) o []

hit-at : (asker : Asker) (o : Option Judged) (old new : Memory) → MatchOption o (new ≡ old) (λ j. LooksUp j asker old new) → AreHits (look asker o) old.remembered → Left old new
hit-at asker None old new same hits = rw same (record { examined = refl; found = λ key h. h })
hit-at asker (Some j) old new step hits = hit j asker old new step (All-head (λ (l : Key × Summary). IsSome (lookup (is_key l.0) old.remembered)) (key_of j asker, sum_of j (member_of asker)) [] hits)

-- the second look-up hits after the first
hits-apart : (asker : Asker) (t p : Option Judged) (remembered : List (Key × Summary)) → AreHits (look asker t ++ look asker p) remembered → AreHits (look asker t) remembered × AreHits (look asker p) remembered
hits-apart asker None p remembered hits = (All-nil (λ (l : Key × Summary). IsSome (lookup (is_key l.0) remembered)), hits)
hits-apart asker (Some j) p remembered hits = (
  All-cons (λ (l : Key × Summary). IsSome (lookup (is_key l.0) remembered)) _ [] (All-head (λ (l : Key × Summary). IsSome (lookup (is_key l.0) remembered)) _ _ hits) (All-nil (λ (l : Key × Summary). IsSome (lookup (is_key l.0) remembered))),
  All-tail (λ (l : Key × Summary). IsSome (lookup (is_key l.0) remembered)) _ _ hits,
)

still-hits : (asker : Asker) (o : Option Judged) (old new : Memory) → Left old new → AreHits (look asker o) old.remembered → AreHits (look asker o) new.remembered
still-hits asker None old new left hits = All-nil (λ (l : Key × Summary). IsSome (lookup (is_key l.0) new.remembered))
still-hits asker (Some j) old new left hits =
    All-cons (λ (l : Key × Summary). IsSome (lookup (is_key l.0) new.remembered)) _ [] (left.found (key_of j asker) (All-head (λ (l : Key × Summary). IsSome (lookup (is_key l.0) old.remembered)) (key_of j asker, sum_of j (member_of asker)) [] hits)) (All-nil (λ (l : Key × Summary). IsSome (lookup (is_key l.0) new.remembered)))

module _ (lists : Lists) (caller : Identity) where
  silent : (demand : Demand) → Fits demand → IsAllowed lists caller demand → IsQuiet lists caller demand → grants_silently lists caller demand ≡ true
  silent (Bits object mask) fits h q = bits_silent caller (lists object) mask fits h q
  silent (ServerTime object) fits h q = time_silent caller (lists object) h q
  silent (Removal parent target) fits h q = removal_silent caller (lists target) (lists parent) h q.0 q.1

module _ (lists : Lists) (asker : Asker) where
  all_hit : (demand : Demand) (old new : Memory) → LooksUpFor lists asker demand old new → AreHits (looks_for lists asker demand) old.remembered → new.examined ≡ old.examined
  all_hit (Bits object mask) old new step hits = (hit-at asker (lists object) old new step hits).examined
  all_hit (ServerTime object) old new step hits = (hit-at asker (lists object) old new step hits).examined
  all_hit (Removal parent target) old new (between, first, second) hits =
      let apart = hits-apart asker (lists target) (lists parent) old.remembered hits in
      let one = hit-at asker (lists target) old between first apart.0 in
      (hit-at asker (lists parent) between new second (still-hits asker (lists parent) old between one apart.1)).examined ∙ one.examined

  pub quiet_hits : (demand : Demand) (old new : Memory) → Fits demand → IsAllowed lists (member_of asker) demand → IsQuiet lists (member_of asker) demand → AreHits (looks_for lists asker demand) old.remembered → Decides lists asker demand old new → new.examined ≡ old.examined
  quiet_hits demand old new fits h q hits (between, looks, walk) =
      ap (λ (m : Memory). m.examined) (walk ∙ ap (λ b. cond b between (walked lists demand between)) (silent lists (member_of asker) demand fits h q)) ∙ all_hit demand old between looks hits
