-- Summaries determine the verdicts of access control lists (ACLs).
use Rattle.std.proofs.Common.{◌≡◌, ℕ, ◌+◌, ◌^◌, ◌<◌, ◌∙◌, Bool, true, false, ◌||◌, cond, List, [], ◌∷◌, ◌++◌, Some, None, refl, ap, sym, inl, inr, ◌⊎◌, arith}
use Rattle.std.specs.Prelude.{Option, All}
use Rattle.std.specs.List.{filter_map, enumerate_from}
use Rattle.std.specs.Option.{option_map, option_map_or}
use Rattle.std.proofs.lemmas.Bool.{and_parts}
use Rattle.std.proofs.lemmas.Bool.Decides.{Decides-eqb}
use Rattle.std.proofs.lemmas.List.Elements.{All-head, All-tail}
use Rattle.rpc_record.specs.Identity.{Identity}
use Rattle.acl_list.specs.Places as places
use Rattle.acl_list.specs.Deciding.{first_match, match_of}
use Rattle.acl_list.specs.Verdicts.{verdict, verdict_on_bit}
use Rattle.acl_list.specs.Summaries.{watch_flag, watched_bits}
use Rattle.acl_list.specs.declared.mask.TheConstants.{DELETE, DELETE_CHILD, WRITE_ATTRIBUTES, WRITE_DATA}
use Rattle.acl_list.specs.declared.entry.Entry.{Entry}
use Rattle.acl_list.specs.declared.answer.Verdict.{Verdict}
use Rattle.acl_list.specs.declared.answer.Verdict.TheVariants as verdicts
use Rattle.acl_list.specs.declared.answer.FirstMatch.{FirstMatch}
use Rattle.acl_list.specs.declared.answer.FirstMatch.TheVariants.{Unmatched, AllowedBy, DeniedBy}
use Rattle.acl_list.specs.declared.answer.Summary.{Summary}
use Rattle.acl_list.proofs.Covering.{granted_iff_covered}
use Rattle.acl_list.proofs.Watching.{unwatched_iff}
use Rattle.acl_list.proofs.OneBit.{verdict-bit}
use Rattle.node_tree.specs.Judged.{Judged}
use Rattle.access_rows.specs.declared.demand.Demand.{Demand}
use Rattle.access_rows.specs.declared.demand.Demand.TheVariants.{Bits, Removal, ServerTime}
use Rattle.access_guard.specs.declared.decision.Decision.{Decision}
use Rattle.access_guard.specs.declared.decision.Decision.TheVariants.{Granted}
use Rattle.access_guard.specs.declared.line.LineKind.{LineKind}
use Rattle.access_guard.specs.declared.line.Line.{Line}
use Rattle.access_guard.specs.Lists.{Lists, names, first_match_at, sum_of, grants, is_quiet}
use Rattle.access_guard.specs.Decisions.{answer, removal, decision, is_granted, is_granting, time_mask}
use Rattle.access_guard.specs.Lines.{line_kind, watch_line, watch_lines, deny_lines, demand_lines, lines, parent_mask}
use Rattle.access_guard.specs.Memory.{is_silent_grant, is_silent_removal, is_silent_time, time_bit, grants_silently}

-- ---- one ACL

no_kind : (o : Option LineKind) → option_map_or {T = LineKind} {U = Option Line} (λ k. None) o None ≡ None
no_kind None = refl
no_kind (Some k) = refl

module _ (caller : Identity) (j : Judged) (mask : ℕ) (fits : mask < 2 ^ 32) where
  granted : grants (sum_of j caller) mask ≡ true → verdict (names j caller) j.list mask ≡ verdicts.Granted
  granted h = (granted_iff_covered (names j caller) j.list mask fits).1 ((Decides-eqb _ _).0 h)

  unwatched : is_quiet (sum_of j caller) mask ≡ true → All (λ e. watched_bits (names j caller) (watch_flag true) mask e ≡ 0) j.list
  unwatched h = (unwatched_iff (names j caller) (watch_flag true) j.list mask fits).0 ((Decides-eqb _ _).0 h)

  silent : (op object : ℕ) → is_quiet (sum_of j caller) mask ≡ true → filter_map (watch_line caller op object mask true j) (enumerate_from 0 j.list) ≡ []
  silent op object h = from 0 j.list (unwatched h)
    where
      none : (index : ℕ) (e : Entry) → watched_bits (names j caller) (watch_flag true) mask e ≡ 0 → watch_line caller op object mask true j (index, e) ≡ None
      none index e z = rw z (no_kind (line_kind e.kind))

      from : (n : ℕ) (es : List Entry) → All (λ e. watched_bits (names j caller) (watch_flag true) mask e ≡ 0) es → filter_map (watch_line caller op object mask true j) (enumerate_from n es) ≡ []
      from n [] all = refl
      from n (e ∷ es) all = rw (none n e (All-head (λ x. watched_bits (names j caller) (watch_flag true) mask x ≡ 0) e es all)) (from (n + 1) es (All-tail (λ x. watched_bits (names j caller) (watch_flag true) mask x ≡ 0) e es all))

  covered : verdict (names j caller) j.list mask ≡ verdicts.Granted → grants (sum_of j caller) mask ≡ true
  covered h = (Decides-eqb _ _).1 ((granted_iff_covered (names j caller) j.list mask fits).0 h)

  -- a summary shows whether the verdict is a grant
  pub granting_is : is_granting (verdict (names j caller) j.list mask) ≡ grants (sum_of j caller) mask
  granting_is = go (verdict (names j caller) j.list mask) (grants (sum_of j caller) mask) covered granted
    where
      go : (v : Verdict) (b : Bool) → (v ≡ verdicts.Granted → b ≡ true) → (b ≡ true → v ≡ verdicts.Granted) → is_granting v ≡ b
      go verdicts.Granted b there back = sym (there refl)
      go (verdicts.Denied index) true there back = let e : verdicts.Denied index ≡ verdicts.Granted = back refl in cc
      go (verdicts.Denied index) false there back = refl
      go (verdicts.Missing bit) true there back = let e : verdicts.Missing bit ≡ verdicts.Granted = back refl in cc
      go (verdicts.Missing bit) false there back = refl

-- ---- a time of the server's

module _ (caller : Identity) (j : Judged) where
  abbrev mask_of : ℕ
  mask_of = time_mask (verdict (names j caller) j.list WRITE_ATTRIBUTES) (verdict (names j caller) j.list WRITE_DATA)

  -- the mask by the summary
  abbrev mask_by : Bool → Bool → ℕ
  mask_by a b = cond a WRITE_ATTRIBUTES (cond b WRITE_DATA WRITE_ATTRIBUTES)

  mask_is : mask_of ≡ mask_by (grants (sum_of j caller) WRITE_ATTRIBUTES) (grants (sum_of j caller) WRITE_DATA)
  mask_is = λ i. mask_by (granting_is caller j WRITE_ATTRIBUTES (omega arith) i) (granting_is caller j WRITE_DATA (omega arith) i)

  pub time_fits : time_bit (sum_of j caller) < 2 ^ 32
  time_fits = elim (grants (sum_of j caller) WRITE_ATTRIBUTES) as (λ b. cond b WRITE_ATTRIBUTES WRITE_DATA < 2 ^ 32) [
    | true ↦ omega arith
    | false ↦ omega arith
  ]

  -- if the summary grants its bit, that is the mask
  pub bit_is : grants (sum_of j caller) (time_bit (sum_of j caller)) ≡ true → mask_of ≡ time_bit (sum_of j caller)
  bit_is h = mask_is ∙ go (grants (sum_of j caller) WRITE_ATTRIBUTES) h
    where
      go : (b : Bool) → grants (sum_of j caller) (cond b WRITE_ATTRIBUTES WRITE_DATA) ≡ true → mask_by b (grants (sum_of j caller) WRITE_DATA) ≡ cond b WRITE_ATTRIBUTES WRITE_DATA
      go true h = refl
      go false h = rw h refl

  -- if the summary grants the mask, that is its bit
  pub mask_is_bit : grants (sum_of j caller) mask_of ≡ true → mask_of ≡ time_bit (sum_of j caller)
  mask_is_bit h = mask_is ∙ go (grants (sum_of j caller) WRITE_ATTRIBUTES) (grants (sum_of j caller) WRITE_DATA) refl (ap (λ m. grants (sum_of j caller) m) (sym mask_is) ∙ h)
    where
      go : (a b : Bool) → grants (sum_of j caller) WRITE_ATTRIBUTES ≡ a → grants (sum_of j caller) (mask_by a b) ≡ true → mask_by a b ≡ cond a WRITE_ATTRIBUTES WRITE_DATA
      go true b is h = refl
      go false true is h = refl
      go false false is h = cc

-- the first matching access control entry (ACE) of a granted bit is an ALLOW
allowed : (place : ℕ) (m : FirstMatch) → verdict_on_bit place m ≡ verdicts.Granted → (index : ℕ) × (m ≡ AllowedBy index)
allowed place Unmatched h = cc
allowed place (AllowedBy index) h = (index, refl)
allowed place (DeniedBy index) h = cc

-- ---- an object, if it exists

module _ (caller : Identity) where
  abbrev sum : Option Judged → Option Summary
  sum o = option_map (λ j. sum_of j caller) o

  abbrev verdict_in : Option Judged → ℕ → Verdict
  verdict_in o mask = option_map_or (λ j. verdict (names j caller) j.list mask) o (verdicts.Missing 0)

  abbrev mask_in : Option Judged → ℕ
  mask_in o = time_mask (verdict_in o WRITE_ATTRIBUTES) (verdict_in o WRITE_DATA)

  bits_granted : (o : Option Judged) (mask : ℕ) → mask < 2 ^ 32 → is_silent_grant (sum o) mask ≡ true → option_map_or (λ j. verdict (names j caller) j.list mask) o (verdicts.Missing 0) ≡ verdicts.Granted
  bits_granted None mask fits h = cc
  bits_granted (Some j) mask fits h = granted caller j mask fits (and_parts _ _ h).0

  bits_silent : (o : Option Judged) (mask : ℕ) → mask < 2 ^ 32 → (op object : ℕ) → is_silent_grant (sum o) mask ≡ true → option_map_or (λ j. filter_map (watch_line caller op object mask true j) (enumerate_from 0 j.list)) o [] ≡ []
  bits_silent None mask fits op object h = cc
  bits_silent (Some j) mask fits op object h = silent caller j mask fits op object (and_parts _ _ h).1

  time_granted : (o : Option Judged) (object : ℕ) → is_silent_time (sum o) ≡ true
      → answer object (mask_in o) (verdict_in o (mask_in o)) ≡ Granted
  time_granted None object h = cc
  time_granted (Some j) object h =
      let s = sum_of j caller in
      rw (bit_is caller j (and_parts _ _ h).0) (ap (answer object (time_bit s)) (granted caller j (time_bit s) (time_fits caller j) (and_parts _ _ h).0))

  time_silent : (o : Option Judged) (op object : ℕ) → is_silent_time (sum o) ≡ true → option_map_or (λ j. filter_map (watch_line caller op object (mask_in o) true j) (enumerate_from 0 j.list)) o [] ≡ []
  time_silent None op object h = cc
  time_silent (Some j) op object h =
      let s = sum_of j caller in
      rw (bit_is caller j (and_parts _ _ h).0) (silent caller j (time_bit s) (time_fits caller j) op object (and_parts _ _ h).1)

-- ---- removal

-- an ALLOW is the first matching ACE of one of the two bits
abbrev Allows : FirstMatch → FirstMatch → Type 0
Allows m n = ((index : ℕ) × (m ≡ AllowedBy index)) ⊎ ((index : ℕ) × (n ≡ AllowedBy index))

removal_granted : (parent target : ℕ) (m n : FirstMatch) (add : Verdict) → Allows m n → removal parent target m n add ≡ Granted
removal_granted parent target m n add (inl h) = rw h.1 refl
removal_granted parent target Unmatched n add (inr h) = rw h.1 refl
removal_granted parent target (AllowedBy index) n add (inr h) = refl
removal_granted parent target (DeniedBy index) n add (inr h) = rw h.1 refl

removal_mask : (m n : FirstMatch) → Allows m n → parent_mask m n ≡ DELETE_CHILD
removal_mask m n (inl h) = rw h.1 refl
removal_mask Unmatched n (inr h) = rw h.1 refl
removal_mask (AllowedBy index) n (inr h) = refl
removal_mask (DeniedBy index) n (inr h) = refl

either : (a b : Bool) → a || b ≡ true → (a ≡ true) ⊎ (b ≡ true)
either true b h = inl refl
either false b h = inr h

module _ (caller : Identity) where
  abbrev first_match_in : Option Judged → ℕ → FirstMatch
  first_match_in o place = option_map_or (λ j. match_of (first_match (names j caller) j.list place)) o Unmatched

  removal_allows : (t p : Option Judged) → is_silent_removal (sum caller t) (sum caller p) ≡ true → Allows (first_match_in t places.delete) (first_match_in p places.delete_child)
  removal_allows None p h = cc
  removal_allows (Some t) None h = cc
  removal_allows (Some t) (Some p) h = elim (either _ _ (and_parts _ _ h).0) [
    | inl d ↦ inl (allowed places.delete _ (sym (verdict-bit (names t caller) t.list places.delete (omega arith)) ∙ granted caller t DELETE (omega arith) d))
    | inr d ↦ inr (allowed places.delete_child _ (sym (verdict-bit (names p caller) p.list places.delete_child (omega arith)) ∙ granted caller p DELETE_CHILD (omega arith) d))
  ]

  target_silent : (t p : Option Judged) (op object : ℕ) → is_silent_removal (sum caller t) (sum caller p) ≡ true → option_map_or (λ j. filter_map (watch_line caller op object DELETE true j) (enumerate_from 0 j.list)) t [] ≡ []
  target_silent None p op object h = cc
  target_silent (Some t) None op object h = cc
  target_silent (Some t) (Some p) op object h = silent caller t DELETE (omega arith) op object (and_parts _ _ (and_parts _ _ h).1).0

  parent_silent : (t p : Option Judged) (op object : ℕ) → is_silent_removal (sum caller t) (sum caller p) ≡ true → option_map_or (λ j. filter_map (watch_line caller op object DELETE_CHILD true j) (enumerate_from 0 j.list)) p [] ≡ []
  parent_silent None p op object h = cc
  parent_silent (Some t) None op object h = cc
  parent_silent (Some t) (Some p) op object h = silent caller p DELETE_CHILD (omega arith) op object (and_parts _ _ (and_parts _ _ h).1).1

-- ---- demands

-- the mask of a demand has 32 bits
abbrev pub Fits : Demand → Type 0
Fits (Bits object mask) = mask < 2 ^ 32
Fits (Removal parent target) = Unit {0}
Fits (ServerTime object) = Unit {0}

module _ (lists : Lists) (caller : Identity) (op : ℕ) where
  pub grants_granted : (demand : Demand) → Fits demand → grants_silently lists caller demand ≡ true → decision lists caller demand ≡ Granted
  grants_granted (Bits object mask) fits h = ap (answer object mask) (bits_granted caller (lists object) mask fits h)
  grants_granted (Removal parent target) fits h = removal_granted parent target _ _ _ (removal_allows caller (lists target) (lists parent) h)
  grants_granted (ServerTime object) fits h = time_granted caller (lists object) object h

  demand_silent : (demand : Demand) → Fits demand → grants_silently lists caller demand ≡ true → demand_lines lists caller op true demand ≡ []
  demand_silent (Bits object mask) fits h = bits_silent caller (lists object) mask fits op object h
  demand_silent (ServerTime object) fits h = time_silent caller (lists object) op object h
  demand_silent (Removal parent target) fits h =
      let mask : parent_mask (first_match_at lists caller target places.delete) (first_match_at lists caller parent places.delete_child) ≡ DELETE_CHILD = removal_mask _ _ (removal_allows caller (lists target) (lists parent) h) in
      let t : watch_lines lists caller op true target DELETE ≡ [] = target_silent caller (lists target) (lists parent) op target h in
      let p : watch_lines lists caller op true parent DELETE_CHILD ≡ [] = parent_silent caller (lists target) (lists parent) op parent h in
      λ i. t i ++ (ap (λ m. watch_lines lists caller op true parent m) mask ∙ p) i

  abbrev lines_of : Demand → Decision → List Line
  lines_of demand d = demand_lines lists caller op (is_granted d) demand ++ deny_lines caller op d

  pub grants_silent : (demand : Demand) → Fits demand → grants_silently lists caller demand ≡ true → lines lists caller op demand ≡ []
  grants_silent demand fits h = ap (lines_of demand) (grants_granted demand fits h) ∙ ap (λ ls. ls ++ []) (demand_silent demand fits h)
