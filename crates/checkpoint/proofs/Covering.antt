-- A server restored over a kept state covers the server that it was kept of.
use Rattle.std.proofs.Common.{◌≡◌, ◌≢◌, inl, inr, ℕ, suc, ◌<◌, ◌≤◌, ◌^◌, cond, List, [], ◌∷◌, length, Option, Some, None, refl, sym, ◌∙◌, ap, subst, arith}
use Rattle.std.specs.Prelude.{All, IfSome, slice_get}
use Rattle.std.specs.List.{AllByRecursion}
use Rattle.std.specs.Map.{lookup, keys_of}
use Rattle.std.specs.BTreeMap.{is_at}
use Rattle.std.specs.Option.{option_map, option_and_then}
use Rattle.std.specs.Ordering.{nat_cmp}
use Rattle.std.specs.declared.cmp.Ordering.TheVariants.{Less}
use Rattle.std.proofs.lemmas.Bool.{cases_eq, cases_order}
use Rattle.std.proofs.lemmas.List.Elements.{All-head, All-tail}
use Rattle.std.proofs.lemmas.Map.Keys.{sorted_head, sorted_tail}
use Rattle.session_slots.specs.declared.session.Held.{Held}
use Rattle.session_slots.specs.Counting.{last_number}
use Rattle.session_slots.specs.Covering.{PlacesCover, SessionCovers, SessionsCover}
use Rattle.session_slots.specs.Registry.{Session, Registry, client_at, session_at, cache_size}
use Rattle.session_slots.specs.Restoring.{IsRising, held_of}
use Rattle.session_slots.specs.Sequencing.{HasSlots}
use Rattle.session_slots.specs.Slots.{Cached as CachedCall, Place, number_of}
use Rattle.session_slots.proofs.Members.{is_another}
use Rattle.node_tree.proofs.Objects.{is_at-same}
use Rattle.compound_run.specs.State.{State}
use Rattle.checkpoint.specs.Kept.{Kept, IsOf}
use Rattle.checkpoint.specs.Covering.{IsInOrder, CoversLaw}

-- ---- two lists by rising number, item by item

apart : (m n : ℕ) → m < n → m ≢ n
apart m n h = grind (arith, h)

-- another number's item is passed over
passed : {X : Type 0} (n : ℕ) (e : ℕ × X) (es : List (ℕ × X)) → n ≢ e.0 → lookup (is_at (nat_cmp n)) (e ∷ es) ≡ lookup (is_at (nat_cmp n)) es
passed n e es other = ap (λ b. cond b (Some e.1) (lookup (is_at (nat_cmp n)) es)) (is_another (is_at (nat_cmp n) e.0) n e.0 refl other)

found : {X : Type 0} (e : ℕ × X) (es : List (ℕ × X)) → lookup (is_at (nat_cmp e.0)) (e ∷ es) ≡ Some e.1
found e es = ap (λ b. cond b (Some e.1) (lookup (is_at (nat_cmp e.0)) es)) (is_at-same e.0)

-- all items have numbers above this one, so none has it
none_above : {X : Type 0} (n m : ℕ) (es : List (ℕ × X)) → n ≤ m → AllByRecursion (λ k. nat_cmp m k ≡ Less) (keys_of es) → lookup (is_at (nat_cmp n)) es ≡ None
none_above n m [] le all = refl
none_above n m (e ∷ es) le all = passed n e es (other n m e.0 le (below m e.0 all.0)) ∙ none_above n m es le all.1
  where
    below : (m k : ℕ) → nat_cmp m k ≡ Less → m < k
    below m k h = grind (arith, h)

    other : (n m k : ℕ) → n ≤ m → m < k → n ≢ k
    other n m k h g = grind (arith, h, g)

-- two that are both absent, or related
abbrev Both : {X : Type 0} → (X → X → Type 0) → Option X → Option X → Type 0
Both R None None = Unit {0}
Both R None (Some y) = ⊥
Both R (Some x) None = ⊥
Both R (Some x) (Some y) = R x y

abbrev Aligned : {X : Type 0} → (X → X → Type 0) → List (ℕ × X) → List (ℕ × X) → Type 0
Aligned R [] [] = Unit {0}
Aligned R [] (f ∷ fs) = ⊥
Aligned R (e ∷ es) [] = ⊥
Aligned R (e ∷ es) (f ∷ fs) = (e.0 ≡ f.0) × R e.1 f.1 × Aligned R es fs

module _ {X : Type 0} (R : X → X → Type 0) where
  abbrev BothAt : List (ℕ × X) → List (ℕ × X) → ℕ → Type 0
  BothAt es fs n = Both R (lookup (is_at (nat_cmp n)) es) (lookup (is_at (nat_cmp n)) fs)

  not_first : (e : ℕ × X) (es fs : List (ℕ × X)) → lookup (is_at (nat_cmp e.0)) fs ≡ None → BothAt (e ∷ es) fs e.0 → ⊥
  not_first e es fs none both =
      let here : Both R (Some e.1) (lookup (is_at (nat_cmp e.0)) fs) = subst (λ o. Both R o (lookup (is_at (nat_cmp e.0)) fs)) (found e es) both in
      subst (λ o. Both R (Some e.1) o) none here

  not_second : (f : ℕ × X) (es fs : List (ℕ × X)) → lookup (is_at (nat_cmp f.0)) es ≡ None → BothAt es (f ∷ fs) f.0 → ⊥
  not_second f es fs none both =
      let here : Both R (lookup (is_at (nat_cmp f.0)) es) (Some f.1) = subst (λ o. Both R (lookup (is_at (nat_cmp f.0)) es) o) (found f fs) both in
      subst (λ o. Both R o (Some f.1)) none here

  none_after : (n : ℕ) (e : ℕ × X) (es : List (ℕ × X)) → IsRising (e ∷ es) → n ≡ e.0 → lookup (is_at (nat_cmp n)) es ≡ None
  none_after n e es rising same = none_above n e.0 es (omega (arith, same)) (sorted_head nat_cmp e.0 (keys_of es) rising)

  below_none : (n : ℕ) (e : ℕ × X) (es : List (ℕ × X)) → IsRising (e ∷ es) → n < e.0 → lookup (is_at (nat_cmp n)) (e ∷ es) ≡ None
  below_none n e es rising lt = passed n e es (apart n e.0 lt) ∙ none_above n e.0 es (omega (arith, lt)) (sorted_head nat_cmp e.0 (keys_of es) rising)

  rest : (e f : ℕ × X) (es fs : List (ℕ × X)) → IsRising (e ∷ es) → IsRising (f ∷ fs) → e.0 ≡ f.0 → ((n : ℕ) → BothAt (e ∷ es) (f ∷ fs) n) → (n : ℕ) → BothAt es fs n
  rest e f es fs rising rising' same all n =
      elim (cases_eq n e.0) [
        | inl here ↦ subst (λ o. Both R o (lookup (is_at (nat_cmp n)) fs)) (sym (none_after n e es rising here)) (subst (λ o. Both R None o) (sym (none_after n f fs rising' (here ∙ same))) tt)
        | inr other ↦
            subst (λ o. Both R o (lookup (is_at (nat_cmp n)) fs)) (passed n e es other)
            (subst (λ o. Both R (lookup (is_at (nat_cmp n)) (e ∷ es)) o) (passed n f fs (λ at. other (at ∙ sym same))) (all n))
      ]

  pub align : (es fs : List (ℕ × X)) → IsRising es → IsRising fs → ((n : ℕ) → BothAt es fs n) → Aligned R es fs
  align [] [] rising rising' all = tt
  align [] (f ∷ fs) rising rising' all = absurd (not_second f [] fs refl (all f.0))
  align (e ∷ es) [] rising rising' all = absurd (not_first e es [] refl (all e.0))
  align (e ∷ es) (f ∷ fs) rising rising' all =
      elim (cases_order e.0 f.0) [
        | inl same ↦ (
          same,
          related same,
          align es fs (sorted_tail nat_cmp e.0 (keys_of es) rising) (sorted_tail nat_cmp f.0 (keys_of fs) rising') (rest e f es fs rising rising' same all),
        )
        | inr (inl less) ↦ absurd (not_first e es (f ∷ fs) (below_none e.0 f fs rising' less) (all e.0))
        | inr (inr more) ↦ absurd (not_second f (e ∷ es) fs (below_none f.0 e es rising more) (all f.0))
      ]
    where
      related : e.0 ≡ f.0 → R e.1 f.1
      related same =
          let there : lookup (is_at (nat_cmp e.0)) (f ∷ fs) ≡ Some f.1 = ap (λ (n : ℕ). lookup (is_at (nat_cmp n)) (f ∷ fs)) same ∙ found f fs in
          subst (λ o. Both R (Some e.1) o) there (subst (λ o. Both R o (lookup (is_at (nat_cmp e.0)) (f ∷ fs))) (found e es) (all e.0))

-- items that are equal, one by one, are an equal list
aligned_is : {X : Type 0} (es fs : List (ℕ × X)) → Aligned (λ x y. x ≡ y) es fs → es ≡ fs
aligned_is [] [] a = refl
aligned_is [] (f ∷ fs) a = absurd a
aligned_is (e ∷ es) [] a = absurd a
aligned_is (e ∷ es) (f ∷ fs) a = λ i. (a.0 i, a.1 i) ∷ aligned_is es fs a.2 i

both_itself : {X : Type 0} (o : Option X) → Both (λ x y. x ≡ y) o o
both_itself None = tt
both_itself (Some x) = refl

-- ---- slots

abbrev kept_in : List Place → ℕ → Option CachedCall
kept_in places slot = option_and_then (λ p. p.kept) (slice_get places slot)

places_cover : (n m : ℕ) (qs ps : List Place) → length qs ≡ length ps → All (λ p. p.most_arguments ≡ n) qs → All (λ p. p.most_arguments ≡ n) ps → All (λ p. p.most_results ≡ m) qs → All (λ p. p.most_results ≡ m) ps
    → ((slot : ℕ) → kept_in qs slot ≡ kept_in ps slot) → ((slot : ℕ) → last_number number_of (kept_in ps slot) < 2 ^ 32) → PlacesCover qs ps
places_cover n m [] [] long aq ap_ rq rp same numbers = tt
places_cover n m [] (p ∷ ps) long aq ap_ rq rp same numbers = cc
places_cover n m (q ∷ qs) [] long aq ap_ rq rp same numbers = cc
places_cover n m (q ∷ qs) (p ∷ ps) long aq ap_ rq rp same numbers = (
  record {
    arguments = All-head (λ (p : Place). p.most_arguments ≡ n) q qs aq ∙ sym (All-head (λ (p : Place). p.most_arguments ≡ n) p ps ap_);
    results = All-head (λ (p : Place). p.most_results ≡ m) q qs rq ∙ sym (All-head (λ (p : Place). p.most_results ≡ m) p ps rp);
    number = numbers 0;
    kept = inl (same 0);
  },
  places_cover n m qs ps (omega (arith, long)) (All-tail (λ (p : Place). p.most_arguments ≡ n) q qs aq) (All-tail (λ (p : Place). p.most_arguments ≡ n) p ps ap_) (All-tail (λ (p : Place). p.most_results ≡ m) q qs rq) (All-tail (λ (p : Place). p.most_results ≡ m) p ps rp)
      (λ slot. same (suc slot)) (λ slot. numbers (suc slot)),
)

-- ---- sessions

abbrev held_in : Option Session → Option Held
held_in o = option_map held_of o

abbrev kept_of : Option Session → ℕ → Option CachedCall
kept_of o slot = option_and_then (λ p. p.kept) (option_and_then (λ s. slice_get s.slots slot) o)

session_covers : (q s : Session) → held_of q ≡ held_of s → ((slot : ℕ) → kept_in q.slots slot ≡ kept_in s.slots slot) → HasSlots q.granted q.slots → HasSlots s.granted s.slots → ((slot : ℕ) → last_number number_of (kept_in s.slots slot) < 2 ^ 32) → SessionCovers q s
session_covers q s held same has_q has_s numbers =
    let granted : q.granted ≡ s.granted = ap (λ (h : Held). h.granted) held in
    let has : HasSlots s.granted q.slots = subst (λ g. HasSlots g q.slots) granted has_q in
    record {
      client = ap (λ (h : Held). h.client) held;
      granted = granted;
      slots = places_cover s.granted.request_size (cache_size s.granted) q.slots s.slots (has.count ∙ sym has_s.count) has.arguments has_s.arguments has.results has_s.results same numbers;
    }

one_held : (a b : Held) → Some a ≡ Some b → a ≡ b
one_held a b e = cc

both_sessions : (x y : Option Session) → held_in x ≡ held_in y → ((slot : ℕ) → kept_of x slot ≡ kept_of y slot) → IfSome x (λ s. HasSlots s.granted s.slots) → IfSome y (λ s. HasSlots s.granted s.slots) → ((slot : ℕ) → last_number number_of (kept_of y slot) < 2 ^ 32) → Both SessionCovers x y
both_sessions None None held same has_x has_y numbers = tt
both_sessions None (Some s) held same has_x has_y numbers = absurd (never held)
  where
    never : None ≡ Some (held_of s) → ⊥
    never e = cc
both_sessions (Some q) None held same has_x has_y numbers = absurd (never held)
  where
    never : Some (held_of q) ≡ None → ⊥
    never e = cc
both_sessions (Some q) (Some s) held same has_x has_y numbers = session_covers q s (one_held (held_of q) (held_of s) held) same has_x has_y numbers

sessions_cover : (qs ss : List (ℕ × Session)) → Aligned SessionCovers qs ss → SessionsCover qs ss
sessions_cover [] [] a = tt
sessions_cover [] (e ∷ ss) a = absurd a
sessions_cover (d ∷ qs) [] a = absurd a
sessions_cover (d ∷ qs) (e ∷ ss) a = (a.0, a.1, sessions_cover qs ss a.2)

-- ---- a server

module _ (k : Kept) (s : State) (is : IsOf k s) (in_k : IsInOrder k.clients.registry) (in_s : IsInOrder s.realm.registry) where
  abbrev q : Registry
  q = k.clients.registry

  abbrev r : Registry
  r = s.realm.registry

  clients_are : q.clients ≡ r.clients
  clients_are =
      aligned_is q.clients r.clients
      (align (λ x y. x ≡ y) q.clients r.clients in_k.clients in_s.clients
      (λ n. subst (λ o. Both (λ x y. x ≡ y) (client_at q n) o) (is.clients_are.records n) (both_itself (client_at q n))))

  all_sessions : SessionsCover q.sessions r.sessions
  all_sessions =
      sessions_cover q.sessions r.sessions
      (align SessionCovers q.sessions r.sessions in_k.sessions in_s.sessions
      (λ n. both_sessions (session_at q n) (session_at r n) (is.clients_are.sessions n).held (is.clients_are.sessions n).slots (in_k.each n).slots (in_s.each n).slots (in_s.each n).numbers))

pub covers : CoversLaw
covers k s capacity is in_k in_s lasting epoch =
    let same = is.clients_are in
    let clients = clients_are k s is in_k in_s in
    let world : k.world ≡ s.realm.world = is.world_is in
    let opens = same.opens in
    let next_open = same.next_open in
    let next_client = same.next_client in
    let next_session = same.next_session in
    let limits = same.limits in
    record {
      realm = record {
        others = λ i. record {
          world = world i;
          opens = opens i;
          next_open = next_open i;
          registry = record { limits = limits i; clients = clients i; sessions = k.clients.registry.sessions; next_client = next_client i; next_session = next_session i };
          lasting = sym lasting i;
        };
        sessions = all_sessions k s is in_k in_s;
      };
      book = is.book_is;
      epoch = epoch;
    }
