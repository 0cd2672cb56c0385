-- Objects in places, after a change.
use Rattle.std.proofs.Common.{◌≡◌, ◌≢◌, ℕ, ◌+◌, ◌<◌, Bool, true, false, cond, List, [], ◌∷◌, length, refl, ap, sym, ◌∙◌, subst, Some, None, arith, inl, inr}
use Rattle.std.specs.Prelude.{Option, ◌⊎◌, count_by, is_some, IsSome}
use Rattle.std.specs.Ordering.{nat_cmp, match_ordering, is_eq}
use Rattle.std.specs.declared.cmp.Ordering.TheVariants.{Less, Equal, Greater}
use Rattle.std.specs.Map.{lookup, set_value, remove_entry, keys_of}
use Rattle.std.specs.BTreeMap.{is_at, insert_entry}
use Rattle.std.specs.Option.{option_map, option_map_or}
use Rattle.std.specs.List.Sorted.{IsStrictlySortedBy}
use Rattle.std.specs.Cmp.{nat_cmp_total, eq_by_cmp_equiv}
use Rattle.std.proofs.lemmas.Map.{lookup-none, lookup-remove_entry}
use Rattle.std.proofs.lemmas.Map.Keys.{sorted_tail, IsDistinct-from_sorted}
use Rattle.std.proofs.lemmas.Map.Entries.{none_past_head}
use Rattle.std.proofs.lemmas.Map.Made.{lookup-map_values, keys_of-map_values}
use Rattle.std.proofs.lemmas.List.{get_or-set_same, get_or-set_other, length-map}
use Rattle.std.proofs.Math.Logic.{⊎_elim}
use Rattle.std.proofs.lemmas.List.Sums.{sum_by-set}
use Rattle.slab.specs.Slab.{Slab, get, slab_len, with_value, Updates}
use Rattle.slab.proofs.SlabLemmas.{ContainsKey-within}
use Rattle.node_tree.specs.World.{Object}
use Rattle.node_tree.specs.Changes.{without}
use Rattle.node_tree.specs.Places.{unseen, in_place, placed, IsPlaced}
use Rattle.node_tree.specs.Sound.{Rises}
use Rattle.node_tree.proofs.Objects.{is_same, is_at-same, without_none, removed}
use Rattle.node_tree.proofs.Rising.{number-below}

-- the place of a number
abbrev at : ℕ → List (ℕ × ℕ) → Option ℕ
at number places = lookup (is_at (nat_cmp number)) places

-- ---- numbers that rise

absent_later : (n : ℕ) (e : ℕ × ℕ) (es : List (ℕ × ℕ)) → IsStrictlySortedBy nat_cmp (keys_of (e ∷ es)) → is_at (nat_cmp n) e.0 ≡ true → at n es ≡ None
absent_later n e es rises here = lookup-none _ es (none_past_head (eq_by_cmp_equiv nat_cmp_total) n e es (IsDistinct-from_sorted nat_cmp _ rises) here)

later : (k q : ℕ) (e : ℕ × ℕ) (es : List (ℕ × ℕ)) → IsStrictlySortedBy nat_cmp (keys_of (e ∷ es)) → at k es ≡ Some q → at k (e ∷ es) ≡ Some q
later k q e es rises is =
    elim (is_at (nat_cmp k) e.0) as (λ b. is_at (nat_cmp k) e.0 ≡ b → cond b (Some e.1) (at k es) ≡ Some q) [
      | true ↦ λ here. let none : at k es ≡ None = absent_later k e es rises here in cc
      | false ↦ λ _. is
    ] refl

first : (e : ℕ × ℕ) (es : List (ℕ × ℕ)) → at e.0 (e ∷ es) ≡ Some e.1
first e es = ap (λ b. cond b (Some e.1) (at e.0 es)) (is_at-same e.0)

-- ---- the objects of numbers

-- the number of objects
pub length-placed : (nodes : Slab Object) (places : List (ℕ × ℕ)) → length (placed nodes places) ≡ length places
length-placed nodes places = length-map places (λ e. (e.0, in_place nodes e.1))

pub placed_at : (nodes : Slab Object) (places : List (ℕ × ℕ)) (k : ℕ) → lookup (is_at (nat_cmp k)) (placed nodes places) ≡ option_map (in_place nodes) (at k places)
placed_at nodes places k = lookup-map_values (in_place nodes) (is_at (nat_cmp k)) places

abbrev or_absent : Option Object → Object
or_absent o = option_map_or (λ o. o) o unseen

held_there : (nodes : Slab Object) (place : ℕ) → IsSome (get nodes place) → get nodes place ≡ Some (in_place nodes place)
held_there nodes place is = elim (get nodes place) as (λ o. IsSome o → o ≡ Some (or_absent o)) [ Some o ↦ λ _. refl | None ↦ λ none. cc ] is

pub found : (nodes : Slab Object) (places : List (ℕ × ℕ)) (k place : ℕ) → IsPlaced nodes places → at k places ≡ Some place → get nodes place ≡ lookup (is_at (nat_cmp k)) (placed nodes places)
found nodes places k place is there = held_there nodes place (is.held k place there) ∙ sym (placed_at nodes places k ∙ ap (option_map (in_place nodes)) there)

pub not_found : (nodes : Slab Object) (places : List (ℕ × ℕ)) (k : ℕ) → at k places ≡ None → lookup (is_at (nat_cmp k)) (placed nodes places) ≡ None
not_found nodes places k none = placed_at nodes places k ∙ ap (option_map (in_place nodes)) none

-- a number that has no object has no place
pub no_place : (nodes : Slab Object) (places : List (ℕ × ℕ)) (k : ℕ) → lookup (is_at (nat_cmp k)) (placed nodes places) ≡ None → at k places ≡ None
no_place nodes places k none = elim (at k places) as (λ o. option_map (in_place nodes) o ≡ None → o ≡ None) [ Some p ↦ λ h. cc | None ↦ λ _. refl ] (sym (placed_at nodes places k) ∙ none)

-- places with the same objects give the same objects
same : (old new : Slab Object) (es : List (ℕ × ℕ)) → IsStrictlySortedBy nat_cmp (keys_of es) → ((k q : ℕ) → at k es ≡ Some q → in_place new q ≡ in_place old q) → placed new es ≡ placed old es
same old new [] rises alike = refl
same old new (e ∷ es) rises alike =
    ap (λ o. (e.0, o) ∷ placed new es) (alike e.0 e.1 (first e es))
    ∙ ap (λ l. (e.0, in_place old e.1) ∷ l) (same old new es (sorted_tail nat_cmp _ _ rises) (λ k q is. alike k q (later k q e es rises is)))

unlike : (k number : ℕ) (places : List (ℕ × ℕ)) (q : ℕ) → at number places ≡ None → at k places ≡ Some q → k ≢ number
unlike k number places q none is same = let other : at k places ≡ None = subst (λ n. at n places ≡ None) (sym same) none in cc

-- ---- a change of one object

changed : (old new : Slab Object) (number place : ℕ) (w : Object) (es : List (ℕ × ℕ)) → IsStrictlySortedBy nat_cmp (keys_of es) → at number es ≡ Some place → in_place new place ≡ w
    → ((k q : ℕ) → at k es ≡ Some q → k ≢ number → in_place new q ≡ in_place old q) → placed new es ≡ set_value (is_at (nat_cmp number)) (placed old es) w
changed old new number place w [] rises there is others = cc
changed old new number place w (e ∷ es) rises there is others =
    elim (is_at (nat_cmp number) e.0) as (λ b. is_at (nat_cmp number) e.0 ≡ b → cond b (Some e.1) (at number es) ≡ Some place
    → (e.0, in_place new e.1) ∷ placed new es ≡ cond b ((e.0, w) ∷ placed old es) ((e.0, in_place old e.1) ∷ set_value (is_at (nat_cmp number)) (placed old es) w)) [
      | true ↦ λ here at_it. let own : e.1 ≡ place = cc in
          ap (λ o. (e.0, o) ∷ placed new es) (ap (in_place new) own ∙ is)
          ∙ ap (λ l. (e.0, w) ∷ l) (same old new es (sorted_tail nat_cmp _ _ rises) (λ k q found. others k q (later k q e es rises found) (unlike k number es q (absent_later number e es rises here) found)))
      | false ↦ λ elsewhere rest.
          ap (λ o. (e.0, o) ∷ placed new es) (others e.0 e.1 (first e es) (λ one. let yes : is_at (nat_cmp number) e.0 ≡ true = subst (λ k. is_at (nat_cmp number) k ≡ true) (sym one) (is_at-same number) in cc))
          ∙ ap (λ l. (e.0, in_place old e.1) ∷ l) (changed old new number place w es (sorted_tail nat_cmp _ _ rises) rest is (λ k q found apart. others k q (later k q e es rises found) apart))
    ] refl there

module _ (nodes : Slab Object) (places : List (ℕ × ℕ)) (is : IsPlaced nodes places) (number place : ℕ) (there : at number places ≡ Some place) (w : Object) where
  within : place < length nodes.slots
  within = ContainsKey-within nodes place (is.held number place there)

  written : get (with_value nodes place w) place ≡ Some w
  written = get_or-set_same nodes.slots place (Some w) None within

  kept : (q : ℕ) → q ≢ place → get (with_value nodes place w) q ≡ get nodes q
  kept q other = get_or-set_other nodes.slots place q (Some w) None other

  elsewhere : (k q : ℕ) → at k places ≡ Some q → k ≢ number → q ≢ place
  elsewhere k q found other one = other (is.apart k number place (found ∙ ap Some one) there)

  -- the object that is written into a place is the object of its number
  pub placed_written : placed (with_value nodes place w) places ≡ set_value (is_at (nat_cmp number)) (placed nodes places) w
  placed_written = changed nodes (with_value nodes place w) number place w places is.ordered there
      (ap or_absent written)
      (λ k q found other. ap or_absent (kept q (elsewhere k q found other)))

  some_still : (q : ℕ) → IsSome (get nodes q) → IsSome (get (with_value nodes place w) q)
  some_still q was = elim (is_at (nat_cmp q) place) as (λ b. is_at (nat_cmp q) place ≡ b → IsSome (get (with_value nodes place w) q)) [
    | true ↦ λ here. subst IsSome (sym (ap (get (with_value nodes place w)) (is_same q place here) ∙ written)) refl
    | false ↦ λ other. subst IsSome (sym (kept q (λ one. let yes : is_at (nat_cmp q) place ≡ true = subst (λ k. is_at (nat_cmp q) k ≡ true) one (is_at-same q) in cc))) was
  ] refl

  pub IsPlaced-written : IsPlaced (with_value nodes place w) places
  IsPlaced-written = record {
    ordered = is.ordered;
    held = λ k q found. some_still q (is.held k q found);
    apart = is.apart;
    counted = let one : cond {A = ℕ} (is_some (get nodes place)) 1 0 ≡ 1 = ap (λ (o : Option Object). cond {A = ℕ} (is_some o) 1 0) (held_there nodes place (is.held number place there)) in
        let as_many : slab_len (with_value nodes place w) + 1 ≡ slab_len nodes + 1 = subst (λ n. slab_len (with_value nodes place w) + n ≡ slab_len nodes + 1) one (sum_by-set (λ (o : Option Object). cond {A = ℕ} (is_some o) 1 0) nodes.slots place (Some w) None within) in
        let before : slab_len nodes ≡ length places = is.counted in omega arith;
  }

-- ---- one object less

lookup_less : (number k : ℕ) (places : List (ℕ × ℕ)) → IsStrictlySortedBy nat_cmp (keys_of places) → at k (remove_entry (is_at (nat_cmp number)) places) ≡ cond (is_at (nat_cmp number) k) None (at k places)
lookup_less number k places rises = lookup-remove_entry (eq_by_cmp_equiv nat_cmp_total) (is_at (nat_cmp number)) (λ x y h. (eq_by_cmp_equiv nat_cmp_total).congr number x y h) k places (IsDistinct-from_sorted nat_cmp _ rises)

-- a number that still has a place is another number, and had that place before
record Stays (number k q : ℕ) (places : List (ℕ × ℕ)) : Type 0 where
  had : at k places ≡ Some q
  other : k ≢ number

stays : (number k q : ℕ) (places : List (ℕ × ℕ)) → IsStrictlySortedBy nat_cmp (keys_of places) → at k (remove_entry (is_at (nat_cmp number)) places) ≡ Some q → Stays number k q places
stays number k q places rises is =
    elim (is_at (nat_cmp number) k) as (λ b. is_at (nat_cmp number) k ≡ b → cond b None (at k places) ≡ Some q → Stays number k q places) [
      | true ↦ λ _ h. cc
      | false ↦ λ apart h. record { had = h; other = λ one. let yes : is_at (nat_cmp number) k ≡ true = subst (λ n. is_at (nat_cmp number) n ≡ true) (sym one) (is_at-same number) in cc }
    ] refl (sym (lookup_less number k places rises) ∙ is)

removed_placed : (nodes : Slab Object) (number : ℕ) (places : List (ℕ × ℕ)) → placed nodes (remove_entry (is_at (nat_cmp number)) places) ≡ remove_entry (is_at (nat_cmp number)) (placed nodes places)
removed_placed nodes number [] = refl
removed_placed nodes number (e ∷ es) =
    elim (is_at (nat_cmp number) e.0) as (λ b. placed nodes (cond b es (e ∷ remove_entry (is_at (nat_cmp number)) es)) ≡ cond b (placed nodes es) ((e.0, in_place nodes e.1) ∷ remove_entry (is_at (nat_cmp number)) (placed nodes es))) [
      | true ↦ refl
      | false ↦ ap (λ l. (e.0, in_place nodes e.1) ∷ l) (removed_placed nodes number es)
    ]

placed_without : (nodes : Slab Object) (number : ℕ) (places : List (ℕ × ℕ)) → IsStrictlySortedBy nat_cmp (keys_of places) → placed nodes (remove_entry (is_at (nat_cmp number)) places) ≡ without number (placed nodes places)
placed_without nodes number places rises =
    removed_placed nodes number places ∙ removed number (placed nodes places) (subst (IsStrictlySortedBy nat_cmp) (sym (keys_of-map_values (in_place nodes) places)) rises)

-- removing an object that doesn't exist changes nothing
pub placed_as_before : (nodes : Slab Object) (now places : List (ℕ × ℕ)) (number : ℕ) → at number places ≡ None → now ≡ places → placed nodes now ≡ without number (placed nodes places)
placed_as_before nodes now places number none is = ap (placed nodes) is ∙ sym (without_none number (placed nodes places) (not_found nodes places number none))

module _ (nodes new : Slab Object) (places now : List (ℕ × ℕ)) (is : IsPlaced nodes places) (number place : ℕ) (there : at number places ≡ Some place)
    (taken : Updates nodes new place None) (rest : now ≡ remove_entry (is_at (nat_cmp number)) places) where
  still : (k q : ℕ) → at k now ≡ Some q → (at k places ≡ Some q) × (get new q ≡ get nodes q)
  still k q found =
      let s = stays number k q places is.ordered (ap (at k) (sym rest) ∙ found) in
      (s.had, taken.others q (λ one. s.other (is.apart k number place (s.had ∙ ap Some one) there)))

  pub placed_taken : IsStrictlySortedBy nat_cmp (keys_of now) → placed new now ≡ without number (placed nodes places)
  placed_taken rises = same nodes new now rises (λ k q found. ap or_absent (still k q found).1) ∙ ap (placed nodes) rest ∙ placed_without nodes number places is.ordered

  pub IsPlaced-taken : IsStrictlySortedBy nat_cmp (keys_of now) → slab_len new + 1 ≡ slab_len nodes → length now + 1 ≡ length places → IsPlaced new now
  IsPlaced-taken rises fewer shorter = record {
    ordered = rises;
    held = λ k q found. let s = still k q found in subst IsSome (sym s.1) (is.held k q s.0);
    apart = λ j k q a b. is.apart j k q (still j q a).0 (still k q b).0;
    counted = let before : slab_len nodes ≡ length places = is.counted in omega arith;
  }

-- ---- one more object

lookup_more : (number place k : ℕ) (places : List (ℕ × ℕ)) → at k (insert_entry nat_cmp places number place) ≡ cond (is_at (nat_cmp k) number) (Some place) (at k places)
lookup_more number place k [] = refl
lookup_more number place k (e ∷ es) =
    elim (nat_cmp number e.0) as (λ r. nat_cmp number e.0 ≡ r → at k (match_ordering r ((number, place) ∷ e ∷ es) ((e.0, place) ∷ es) (e ∷ insert_entry nat_cmp es number place)) ≡ cond (is_at (nat_cmp k) number) (Some place) (cond (is_at (nat_cmp k) e.0) (Some e.1) (at k es))) [
      | Less ↦ λ is. refl
      | Equal ↦ λ is. let one : number ≡ e.0 = is_same number e.0 (ap is_eq is) in
          subst (λ n. cond (is_at (nat_cmp k) e.0) (Some place) (at k es) ≡ cond (is_at (nat_cmp k) n) (Some place) (cond (is_at (nat_cmp k) e.0) (Some e.1) (at k es))) (sym one) (shadowed (is_at (nat_cmp k) e.0) (Some place) (Some e.1) (at k es))
      | Greater ↦ λ is. ap (cond (is_at (nat_cmp k) e.0) (Some e.1)) (lookup_more number place k es)
          ∙ swapped (is_at (nat_cmp k) e.0) (is_at (nat_cmp k) number) (Some e.1) (Some place) (at k es) (λ a b. apart_from is (is_same k number b) (is_same k e.0 a))
    ] refl
  where
    shadowed : (b : Bool) (x y z : Option ℕ) → cond b x z ≡ cond b x (cond b y z)
    shadowed true x y z = refl
    shadowed false x y z = refl

    swapped : (a b : Bool) (x y z : Option ℕ) → (a ≡ true → b ≡ true → ⊥) → cond a x (cond b y z) ≡ cond b y (cond a x z)
    swapped true true x y z no_both = absurd (no_both refl refl)
    swapped true false x y z no_both = refl
    swapped false b x y z no_both = refl

    apart_from : nat_cmp number e.0 ≡ Greater → k ≡ number → k ≡ e.0 → ⊥
    apart_from is a b = let t : is_eq (nat_cmp number e.0) ≡ true = subst (λ n. is_at (nat_cmp number) n ≡ true) (sym a ∙ b) (is_at-same number) in let f : is_eq (nat_cmp number e.0) ≡ false = ap is_eq is in cc

inserted_placed : (nodes : Slab Object) (number place : ℕ) (places : List (ℕ × ℕ)) → placed nodes (insert_entry nat_cmp places number place) ≡ insert_entry nat_cmp (placed nodes places) number (in_place nodes place)
inserted_placed nodes number place [] = refl
inserted_placed nodes number place (e ∷ es) =
    elim (nat_cmp number e.0) as (λ r. placed nodes (match_ordering r ((number, place) ∷ e ∷ es) ((e.0, place) ∷ es) (e ∷ insert_entry nat_cmp es number place))
    ≡ match_ordering r ((number, in_place nodes place) ∷ (e.0, in_place nodes e.1) ∷ placed nodes es) ((e.0, in_place nodes place) ∷ placed nodes es) ((e.0, in_place nodes e.1) ∷ insert_entry nat_cmp (placed nodes es) number (in_place nodes place))) [
      | Less ↦ refl
      | Equal ↦ refl
      | Greater ↦ ap (λ l. (e.0, in_place nodes e.1) ∷ l) (inserted_placed nodes number place es)
    ]

-- a number that has a place is the new number, or had that place before
record New (number place k q : ℕ) : Type 0 where
  here : k ≡ number
  in_it : q ≡ place

module _ (nodes new : Slab Object) (places now : List (ℕ × ℕ)) (is : IsPlaced nodes places) (number place : ℕ) (o : Object)
    (none : at number places ≡ None) (vacant : get nodes place ≡ None) (filled : Updates nodes new place (Some o)) (more : now ≡ insert_entry nat_cmp places number place) where
  other_place : (k q : ℕ) → at k places ≡ Some q → q ≢ place
  other_place k q found one = let some : IsSome (get nodes place) = subst (λ p. IsSome (get nodes p)) one (is.held k q found) in let empty : is_some (get nodes place) ≡ false = ap is_some vacant in cc

  cases : (k q : ℕ) → at k now ≡ Some q → New number place k q ⊎ (at k places ≡ Some q)
  cases k q found =
      elim (is_at (nat_cmp k) number) as (λ b. is_at (nat_cmp k) number ≡ b → cond b (Some place) (at k places) ≡ Some q → New number place k q ⊎ (at k places ≡ Some q)) [
        | true ↦ λ here h. inl (record { here = is_same k number here; in_it = cc })
        | false ↦ λ _ h. inr h
      ] refl (sym (lookup_more number place k places) ∙ ap (at k) (sym more) ∙ found)

  pub placed_more : placed new now ≡ insert_entry nat_cmp (placed nodes places) number o
  placed_more =
      ap (placed new) more ∙ inserted_placed new number place places
      ∙ ap (insert_entry nat_cmp (placed new places) number) (ap or_absent filled.changed)
      ∙ ap (λ l. insert_entry nat_cmp l number o) (same nodes new places is.ordered (λ k q found. ap or_absent (filled.others q (other_place k q found))))

  pub IsPlaced-more : IsStrictlySortedBy nat_cmp (keys_of now) → slab_len new ≡ slab_len nodes + 1 → length now ≡ length places + 1 → IsPlaced new now
  IsPlaced-more rises one_more longer = record {
    ordered = rises;
    held = λ k q found. ⊎_elim (λ (n : New number place k q). subst IsSome (sym (ap (get new) n.in_it ∙ filled.changed)) refl) (λ (was : at k places ≡ Some q). subst IsSome (sym (filled.others q (other_place k q was))) (is.held k q was)) (cases k q found);
    apart = λ j k q a b. ⊎_elim
        (λ (m : New number place j q). ⊎_elim (λ (n : New number place k q). m.here ∙ sym n.here) (λ (was : at k places ≡ Some q). absurd (other_place k q was m.in_it)) (cases k q b))
        (λ (was : at j places ≡ Some q). ⊎_elim (λ (n : New number place k q). absurd (other_place j q was n.in_it)) (λ (also : at k places ≡ Some q). is.apart j k q was also) (cases k q b))
        (cases j q a);
    counted = let before : slab_len nodes ≡ length places = is.counted in omega arith;
  }

-- a larger capacity changes nothing
pub roomier : (nodes new : Slab Object) (places : List (ℕ × ℕ)) → new ≡ record nodes { capacity = new.capacity } → IsPlaced nodes places → IsPlaced new places
roomier nodes new places same is = subst (λ n. IsPlaced n places) (sym same) (record { ordered = is.ordered; held = is.held; apart = is.apart; counted = is.counted })

-- if there was no object under the number, there is one more object
pub as_long : (places now : List (ℕ × ℕ)) (old : Option ℕ) → old ≡ None → length now ≡ length places + cond (is_some old) 0 1 → length now ≡ length places + 1
as_long places now old none len = len ∙ ap (λ (o : Option ℕ). length places + cond (is_some o) 0 1) none

-- if there was an object under the number, there is one object less
pub shorter : (places now : List (ℕ × ℕ)) (old : Option ℕ) (place : ℕ) → old ≡ Some place → length now + cond (is_some old) 1 0 ≡ length places → length now + 1 ≡ length places
shorter places now old place there len = ap (λ (o : Option ℕ). length now + cond (is_some o) 1 0) (sym there) ∙ len

-- the next number has no object
pub none_next : (low next : ℕ) (es : List (ℕ × Object)) → Rises (λ e. e.0) low es next → lookup (is_at (nat_cmp next)) es ≡ None
none_next low next es rises = elim (lookup (is_at (nat_cmp next)) es) as (λ o. lookup (is_at (nat_cmp next)) es ≡ o → o ≡ None) [
  | None ↦ λ _. refl
  | Some o ↦ λ is. let below : next < next = number-below low next es next o rises is in absurd (omega arith)
] refl

-- ---- no objects

pub IsPlaced-none : (nodes : Slab Object) (places : List (ℕ × ℕ)) → IsStrictlySortedBy nat_cmp (keys_of places) → nodes.slots ≡ [] → places ≡ [] → IsPlaced nodes places
IsPlaced-none nodes places rises free none = record {
  ordered = rises;
  held = λ n p is. let no : at n places ≡ None = ap (at n) none in cc;
  apart = λ j k p is _. let no : at j places ≡ None = ap (at j) none in cc;
  counted = ap (λ (s : List (Option Object)). count_by is_some s) free ∙ sym (ap (λ (l : List (ℕ × ℕ)). length l) none);
}
