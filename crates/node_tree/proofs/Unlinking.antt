-- A sound world stays sound when a name is removed whose child isn't a directory with names.
use Rattle.std.proofs.Common.{◌≡◌, ◌≢◌, ℕ, ◌+◌, ◌<◌, ◌≤◌, ◌^◌, Bool, true, false, not, cond, List, refl, ap, sym, ◌∙◌, subst, arith, Some, None}
use Rattle.std.specs.Prelude.{Option, IsSome, IfSome, is_some, find, ◌==◌}
use Rattle.std.specs.Ordering.{nat_cmp}
use Rattle.std.specs.Map.{lookup}
use Rattle.std.specs.BTreeMap.{is_at}
use Rattle.std.specs.List.{filter}
use Rattle.std.specs.Option.{option_map}
use Rattle.std.proofs.lemmas.Bool.Decides.{Decides-eqb}
use Rattle.acl_list.specs.declared.entry.Kind.{Kind}
use Rattle.node_tree.specs.declared.at.At.{At}
use Rattle.node_tree.specs.Limits.{ROOT}
use Rattle.node_tree.specs.World.{World, Object, Name, object, kind_of, is_named, has_name, has_entries, child_named}
use Rattle.node_tree.specs.Changes.{changed, without, touched, retold, released, other_names, without_name}
use Rattle.node_tree.specs.Judged.{judged, KeepsJudged}
use Rattle.node_tree.specs.Sound.{stamp_of, IsIn, IsRooted, IsSound, IsTick}
use Rattle.node_tree.proofs.Objects.{is_same, is_at-same, lookup-without, option_map-changed}
use Rattle.node_tree.proofs.Rising.{Rises-filter}
use Rattle.node_tree.proofs.Names.{child_sought, in_filter, from_filter, any_passes, none_passes, Found, found, named_directory, named_name, flipped, IsLimited-filter}
use Rattle.node_tree.proofs.Holding.{IsHeld-later, IsHeld-touched, IsHeld-released}
use Rattle.node_tree.proofs.Stamps.{IsStamped-fewer}
use Rattle.node_tree.proofs.Rooted.{Prunes, IsRooted-pruned}
use Rattle.node_tree.proofs.Setting.{held_in}
use mathlib.Core.Path.{fun_ext}

-- a value of each object after one object is removed, if it is
unfoldable pub after : {X : Type 0} → Bool → (ℕ → Option X) → ℕ → ℕ → Option X
after stays old child k = cond stays (old k) (cond (is_at (nat_cmp child) k) None (old k))

pub after_elsewhere : {X : Type 0} (old : ℕ → Option X) (child k : ℕ) → child ≢ k → after false old child k ≡ old k
unfolding after
after_elsewhere old child k apart =
    elim (is_at (nat_cmp child) k) as (λ b. is_at (nat_cmp child) k ≡ b → cond b None (old k) ≡ old k) [
      | true ↦ λ at. absurd (apart (is_same child k at))
      | false ↦ λ at. refl
    ] refl

pub after_there : {X : Type 0} (old : ℕ → Option X) (child k : ℕ) → child ≡ k → after false old child k ≡ None
unfolding after
after_there old child k same = ap (λ b. cond b None (old k)) (subst (λ k. is_at (nat_cmp child) k ≡ true) same (is_at-same child))

pub after_was : {X : Type 0} (stays : Bool) (old : ℕ → Option X) (child k : ℕ) → IsSome (after stays old child k) → after stays old child k ≡ old k
unfolding after
after_was true old child k h = refl
after_was false old child k h = elim (is_at (nat_cmp child) k) as (λ b. is_some (cond b None (old k)) ≡ true → cond b None (old k) ≡ old k) [ true ↦ λ h. cc | false ↦ λ h. refl ] h

pub after_stays : {X : Type 0} (old : ℕ → Option X) (child k : ℕ) → after true old child k ≡ old k
unfolding after
after_stays old child k = refl

pub after_some : {X : Type 0} (stays : Bool) (old : ℕ → Option X) (child k : ℕ) (x : X) → after stays old child k ≡ Some x → old k ≡ Some x
after_some stays old child k x is = sym (after_was stays old child k (ap is_some is)) ∙ is

pub lost : {o : Option Kind} → o ≡ None → IsSome o → ⊥
lost e h = let k : is_some {T = Kind} None ≡ true = subst (λ o. is_some o ≡ true) e h in cc

-- a value of each object after one has lost a name
pub read_released : {X : Type 0} (read : Object → X) (names : List Name) (child : ℕ) (at : At) (es : List (ℕ × Object)) → ((o : Object) → read (retold at o) ≡ read o)
    → (k : ℕ) → option_map read (lookup (is_at (nat_cmp k)) (released names child at es)) ≡ after (has_name names child) (λ k. option_map read (lookup (is_at (nat_cmp k)) es)) child k
unfolding after
read_released read names child at es retelling k =
    elim (has_name names child) as (λ s. option_map read (lookup (is_at (nat_cmp k)) (cond s (changed child (retold at) es) (without child es))) ≡ cond s (option_map read (lookup (is_at (nat_cmp k)) es)) (cond (is_at (nat_cmp child) k) None (option_map read (lookup (is_at (nat_cmp k)) es)))) [
      | true ↦ option_map-changed read child (retold at) es retelling k
      | false ↦ ap (option_map read) (lookup-without child k es) ∙ elim (is_at (nat_cmp child) k) as (λ b. option_map read (cond b None (lookup (is_at (nat_cmp k)) es)) ≡ cond b None (option_map read (lookup (is_at (nat_cmp k)) es))) [ true ↦ refl | false ↦ refl ]
    ]

module _ (kinds : ℕ → Option Kind) (names : List Name) (rooted : IsRooted kinds names) (directory : ℕ) (name : List ℕ) (child : ℕ)
    (reads : option_map (λ (n : Name). n.child) (find (is_named directory name) names) ≡ Some child) where
  abbrev kept : Name → Bool
  kept n = not (is_named directory name n)

  -- the name that is removed
  pub goes : Found (λ n. n.child) (is_named directory name) names child
  goes = found (λ n. n.child) (is_named directory name) names child reads

  -- no other name is equal to it
  pub is_goes : (n : Name) → IsIn n names → kept n ≡ false → n ≡ goes.name
  is_goes n present out =
      let named : is_named directory name n ≡ true = flipped _ out in
      rooted.one_child n goes.name present goes.present
      (named_directory directory name n named ∙ sym (named_directory directory name goes.name goes.passes))
      (named_name directory name n named ∙ sym (named_name directory name goes.name goes.passes))

  pub its_child : (n : Name) → IsIn n names → kept n ≡ false → n.child ≡ child
  its_child n present out = ap (λ (n : Name). n.child) (is_goes n present out) ∙ goes.child_is

  -- the child keeps another name
  prunes_name : has_name (filter kept names) child ≡ true → Prunes kinds kinds kept names
  prunes_name has =
      let other = any_passes (λ n. n.child == child) (filter kept names) has in
      let at : other.name.child ≡ child = (Decides-eqb other.name.child child).0 other.passes in
      let stay = from_filter kept other.name names other.present in
      record {
        was = λ k h. refl;
        root = refl;
        ends = λ n h i. (refl, refl);
        held = λ k h apart. let r = rooted.held k h apart in
            elim (kept r.0) as (λ b. kept r.0 ≡ b → (n : Name) × IsIn n (filter kept names) × (n.child ≡ k)) [
              | true ↦ λ is. (r.0, in_filter kept r.0 names r.1 is, r.2)
              | false ↦ λ is. (other.name, other.present, at ∙ sym (its_child r.0 r.1 is) ∙ r.2)
            ] refl;
        removed = λ n present is. elim (kept n) as (λ b. kept n ≡ b → b ≡ true) [
          | true ↦ λ _. refl
          | false ↦ λ out. let same : other.name ≡ n = rooted.one_parent other.name n stay.was_present present (at ∙ sym (its_child n present out)) is in
              let in' : kept n ≡ true = subst (λ n. kept n ≡ true) same stay.passes in cc
        ] refl;
      }

  -- the child is removed
  prunes_child : has_entries names child ≡ false → has_name (filter kept names) child ≡ false → Prunes kinds (after false kinds child) kept names
  prunes_child empty none =
      let apart = λ (k : ℕ) (h : IsSome (after false kinds child k)) (same : child ≡ k). lost (after_there kinds child k same) h in
      record {
        was = λ k h. after_was false kinds child k h;
        root = after_elsewhere kinds child ROOT (λ same. rooted.root_has_no_name goes.name goes.present (goes.child_is ∙ same));
        ends = λ n present passes. (
          after_elsewhere kinds child n.directory (λ same. none_passes (λ n. n.directory == child) names empty n present ((Decides-eqb n.directory child).1 (sym same))),
          after_elsewhere kinds child n.child (λ same. none_passes (λ n. n.child == child) (filter kept names) none n (in_filter kept n names present passes) ((Decides-eqb n.child child).1 (sym same))),
        );
        held = λ k h not_root. let r = rooted.held k (ap is_some (sym (after_was false kinds child k h)) ∙ h) not_root in
            elim (kept r.0) as (λ b. kept r.0 ≡ b → (n : Name) × IsIn n (filter kept names) × (n.child ≡ k)) [
              | true ↦ λ is. (r.0, in_filter kept r.0 names r.1 is, r.2)
              | false ↦ λ is. absurd (apart k h (sym (its_child r.0 r.1 is) ∙ r.2))
            ] refl;
        removed = λ n present is. elim (kept n) as (λ b. kept n ≡ b → b ≡ true) [
          | true ↦ λ _. refl
          | false ↦ λ out. absurd (apart n.child (ap is_some is) (sym (its_child n present out)))
        ] refl;
      }

  rooted_without : has_entries names child ≡ false → IsRooted (after (has_name (filter kept names) child) kinds child) (filter kept names)
  rooted_without empty = elim (has_name (filter kept names) child) as (λ s. has_name (filter kept names) child ≡ s → IsRooted (after s kinds child) (filter kept names)) [
    | true ↦ λ has. subst (λ k. IsRooted k (filter kept names)) (sym (fun_ext (after_stays kinds child))) (IsRooted-pruned _ _ _ _ rooted (prunes_name has))
    | false ↦ λ has. IsRooted-pruned _ _ _ _ rooted (prunes_child empty has)
  ] refl

-- a value of each object after the change
read_without : {X : Type 0} (read : Object → X) (directory : ℕ) (names : List Name) (child : ℕ) (at : At) (es : List (ℕ × Object))
    → ((o : Object) → read (touched at o) ≡ read o) → ((o : Object) → read (retold at o) ≡ read o)
    → (k : ℕ) → option_map read (lookup (is_at (nat_cmp k)) (changed directory (touched at) (released names child at es))) ≡ after (has_name names child) (λ k. option_map read (lookup (is_at (nat_cmp k)) es)) child k
read_without read directory names child at es touching retelling k =
    option_map-changed read directory (touched at) (released names child at es) touching k ∙ read_released read names child at es retelling k

pub IsSound-without_name : (w : World) → IsSound w → (directory : ℕ) (name : List ℕ) (child : ℕ) (at : At) → IsTick w at.tick → child_named w directory name ≡ Some child → has_entries w.names child ≡ false
    → IsSound (without_name w directory name child at)
IsSound-without_name w sound directory name child at tick reads empty =
    let due : at.tick < at.tick + 1 = omega arith in
    let names = other_names directory name w.names in
    let stays = has_name names child in
    let kinds : kind_of (without_name w directory name child at) ≡ after stays (kind_of w) child = fun_ext (read_without (λ o. o.kind) directory names child at w.objects (λ o. refl) (λ o. refl)) in
    let held = IsHeld-touched directory at _ w.next_number (at.tick + 1) due (IsHeld-released names child at w.objects w.next_number (at.tick + 1) due
    (IsHeld-later w.objects w.next_number w.next_tick (at.tick + 1) tick.fresh (held_in w sound))) in
    record {
      rooted = subst (λ k. IsRooted k names) (sym kinds) (rooted_without (kind_of w) w.names sound.rooted directory name child (child_sought w.names directory name ∙ reads) empty);
      stamped = IsStamped-fewer (stamp_of w) _ w.next_stamp (λ k s is. after_some stays (stamp_of w) child k s (sym (read_without (λ o. o.stamp) directory names child at w.objects (λ o. refl) (λ o. refl) k) ∙ is)) sound.stamped;
      numbered = held.numbered;
      listed = Rises-filter (λ n. n.cookie) _ 3 w.next_cookie w.names sound.listed;
      few = held.few;
      fit = held.fit;
      limited = IsLimited-filter _ w.names sound.limited;
      counted = record { numbers = sound.counted.numbers; ticks = (let goal : at.tick + 1 ≤ 2 ^ 63 = omega (arith, tick.left) in goal); stamps = sound.counted.stamps; cookies = sound.counted.cookies };
      allowed = sound.allowed;
    }

pub KeepsJudged-without_name : (w : World) (directory : ℕ) (name : List ℕ) (child : ℕ) (at : At) → KeepsJudged w (without_name w directory name child at)
KeepsJudged-without_name w directory name child at = record {
  stamps_rise = omega arith;
  same = λ k j is _. after_some (has_name (other_names directory name w.names) child) _ child k j (sym (read_without judged directory (other_names directory name w.names) child at w.objects (λ o. refl) (λ o. refl) k) ∙ is);
}

-- the child of a name exists
pub live_child : (w : World) → IsSound w → (directory : ℕ) (name : List ℕ) (child : Option ℕ) → child ≡ child_named w directory name → IfSome child (λ child. IsSome (object w child))
live_child w sound directory name None is = tt
live_child w sound directory name (Some child) is =
    let n = found (λ n. n.child) (is_named directory name) w.names child (child_sought w.names directory name ∙ sym is) in
    there (object w child) (subst (λ k. IsSome (kind_of w k)) n.child_is (sound.rooted.ends n.name n.present).1)
  where
    there : (o : Option Object) → IsSome (option_map (λ (o : Object). o.kind) o) → IsSome o
    there None h = h
    there (Some o) h = refl
