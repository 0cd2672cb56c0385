-- A sound world stays sound when a child gets a new name.
use Rattle.std.proofs.Common.{◌≡◌, ◌≢◌, ℕ, ◌+◌, ◌<◌, ◌≤◌, ◌^◌, Bool, true, false, not, ◌&&◌, ◌||◌, cond, List, length, refl, ap, sym, ◌∙◌, subst, arith, Some, None}
use Rattle.std.specs.Prelude.{Option, IsSome, IfSome, is_some, find, ◌==◌}
use Rattle.std.specs.Ordering.{nat_cmp}
use Rattle.std.specs.Map.{lookup}
use Rattle.std.specs.BTreeMap.{is_at}
use Rattle.std.specs.List.{filter}
use Rattle.std.specs.Option.{option_map, option_map_or}
use Rattle.std.proofs.lemmas.Bool.Decides.{Decides-eqb, Decides-ltb}
use Rattle.acl_list.specs.declared.entry.Kind.{Kind}
use Rattle.acl_list.specs.declared.entry.Kind.TheVariants.{Directory}
use Rattle.acl_shape.specs.Inherited.{is_directory}
use Rattle.node_tree.specs.declared.at.At.{At}
use Rattle.nfs_types.specs.Limits.{Limits}
use Rattle.node_tree.specs.Limits.{ROOT, MAX_NAME}
use Rattle.node_tree.specs.World.{World, Object, Name, object, kind_of, is_named, has_name, has_entries, child_named, is_one, is_directory_at, parent_of, name_count, link_count}
use Rattle.node_tree.specs.Ways.{is_within}
use Rattle.node_tree.specs.Changes.{changed, touched, retold, released, other_names, given_name, with_move}
use Rattle.node_tree.specs.Refusals.{is_below, may_replace, may_move, has_left, has_room}
use Rattle.node_tree.specs.Judged.{judged, judged_of, KeepsJudged}
use Rattle.node_tree.specs.Sound.{stamp_of, IsIn, IsRooted, IsSound, IsTick}
use Rattle.node_tree.proofs.Objects.{option_map-changed}
use Rattle.node_tree.proofs.Rising.{Rises-filter, Rises-push}
use Rattle.node_tree.proofs.Names.{child_sought, in_filter, from_filter, any_passes, none_passes, not_found, Found, named_directory, named_at, flipped, flipped_back, count_by-filter, count_by-filter_out, name_count-filter, name_count-filter_out, IsLimited-filter, IsLimited-push}
use Rattle.node_tree.proofs.Holding.{IsHeld, IsHeld-later, IsHeld-touched, IsHeld-retold, IsHeld-released}
use Rattle.node_tree.proofs.Stamps.{IsStamped-fewer}
use Rattle.node_tree.proofs.Rooted.{Moves, IsRooted-moved}
use Rattle.node_tree.proofs.Unlinking.{after, after_elsewhere, after_there, after_was, after_stays, after_some, lost, read_released, goes, its_child}
use Rattle.node_tree.proofs.Setting.{held_in}
use mathlib.Core.Path.{fun_ext}

-- ---- the names

module _ (kinds : ℕ → Option Kind) (names : List Name) (rooted : IsRooted kinds names) (from : ℕ) (old : List ℕ) (to : ℕ) (new : List ℕ) (child : ℕ)
    (named : option_map (λ (n : Name). n.child) (find (is_named from old) names) ≡ Some child) (live : kinds to ≡ Some Directory) where
  abbrev pub other : Name → Bool
  other n = not (is_named from old n)

  abbrev pub free : Name → Bool
  free n = not (is_named to new n)

  abbrev pub rest : List Name
  rest = filter free (filter other names)

  it : Found (λ n. n.child) (is_named from old) names child
  it = goes kinds names rooted from old child named

  was_present : (n : Name) → IsIn n rest → IsIn n names
  was_present n h = (from_filter other n names (from_filter free n (filter other names) h).was_present).was_present

  no_other_child : kinds child ≡ Some Directory → (n : Name) → IsIn n rest → n.child ≡ child → ⊥
  no_other_child is n h at =
      let first = from_filter free n (filter other names) h in
      let second = from_filter other n names first.was_present in
      let same : n ≡ it.name = rooted.one_parent n it.name second.was_present it.present (at ∙ sym it.child_is) (ap kinds it.child_is ∙ is) in
      let removed : other it.name ≡ false = ap not it.passes in
      let stays : other it.name ≡ true = subst (λ n. other n ≡ true) same second.passes in cc

  is_free : (n : Name) → IsIn n rest → n.directory ≡ to → n.name ≡ new → ⊥
  is_free n h d s = let passes : free n ≡ true = (from_filter free n (filter other names) h).passes in
      let named_is : is_named to new n ≡ true = named_at to new n d s in
      let out : free n ≡ false = ap not named_is in cc

  -- the name of another object stays, unless it is the new name
  stays_there : (n : Name) → IsIn n names → child ≢ n.child → free n ≡ true → IsIn n rest
  stays_there n h apart is = in_filter free n (filter other names)
      (in_filter other n names h (elim (other n) as (λ b. other n ≡ b → b ≡ true) [
        | true ↦ λ _. refl
        | false ↦ λ out. absurd (apart (sym (its_child kinds names rooted from old child named n h out)))
      ] refl)) is

  -- no object is removed: the object that had the new name, if any, has another name
  moves_all : IsSome (kinds child) → ((n : Name) → IsIn n names → free n ≡ false → (m : Name) × IsIn m rest × (m.child ≡ n.child)) → Moves kinds kinds names rest child to new
  moves_all there again = record {
    was = λ k h. refl;
    root = refl;
    old = was_present;
    ends = λ n h. (refl, refl);
    live = live;
    there = there;
    below_root = λ same. rooted.root_has_no_name it.name it.present (it.child_is ∙ same);
    free = is_free;
    once = no_other_child;
    held = λ k h below apart. let r = rooted.held k h below in
        elim (free r.0) as (λ b. free r.0 ≡ b → (n : Name) × IsIn n rest × (n.child ≡ k)) [
          | true ↦ λ is. (r.0, stays_there r.0 r.1 (λ same. apart (same ∙ r.2)) is, r.2)
          | false ↦ λ is. let m = again r.0 r.1 is in (m.0, m.1, m.2 ∙ r.2)
        ] refl;
    stays = λ n h is apart. elim (free n) as (λ b. free n ≡ b → IsIn n rest) [
      | true ↦ λ free_name. stays_there n h apart free_name
      | false ↦ λ out. let m = again n h out in subst (λ n. IsIn n rest) (rooted.one_parent m.0 n (was_present m.0 m.1) h m.2 is) m.1
    ] refl;
  }

  -- the object that had the new name is removed
  moves_but : (target : ℕ) → option_map (λ (n : Name). n.child) (find (is_named to new) names) ≡ Some target → child ≢ target → IsSome (kinds child)
      → ((n : Name) → IsIn n names → n.directory ≡ target → ⊥) → has_name rest target ≡ false → Moves kinds (after false kinds target) names rest child to new
  moves_but target taken apart there empty none =
      let its_target = its_child kinds names rooted to new target taken in
      let has_it = goes kinds names rooted to new target taken in
      let not_it = λ (k : ℕ) (h : IsSome (after false kinds target k)) (same : target ≡ k). lost (after_there kinds target k same) h in
      let no_name = λ (n : Name) (h : IsIn n rest) (same : target ≡ n.child). none_passes (λ n. n.child == target) rest none n h ((Decides-eqb n.child target).1 (sym same)) in
      record {
        was = λ k h. after_was false kinds target k h;
        root = after_elsewhere kinds target ROOT (λ same. rooted.root_has_no_name has_it.name has_it.present (has_it.child_is ∙ same));
        old = was_present;
        ends = λ n h. (after_elsewhere kinds target n.directory (λ same. empty n (was_present n h) (sym same)), after_elsewhere kinds target n.child (no_name n h));
        live = after_elsewhere kinds target to (λ same. empty has_it.name has_it.present (named_directory to new has_it.name has_it.passes ∙ sym same)) ∙ live;
        there = ap is_some (after_elsewhere kinds target child (λ same. apart (sym same))) ∙ there;
        below_root = λ same. rooted.root_has_no_name it.name it.present (it.child_is ∙ same);
        free = is_free;
        once = λ is. no_other_child (sym (after_elsewhere kinds target child (λ same. apart (sym same))) ∙ is);
        held = λ k h below apart. let r = rooted.held k (ap is_some (sym (after_was false kinds target k h)) ∙ h) below in
            elim (free r.0) as (λ b. free r.0 ≡ b → (n : Name) × IsIn n rest × (n.child ≡ k)) [
              | true ↦ λ is. (r.0, stays_there r.0 r.1 (λ same. apart (same ∙ r.2)) is, r.2)
              | false ↦ λ is. absurd (not_it k h (sym (its_target r.0 r.1 is) ∙ r.2))
            ] refl;
        stays = λ n h is apart. elim (free n) as (λ b. free n ≡ b → IsIn n rest) [
          | true ↦ λ free_name. stays_there n h apart free_name
          | false ↦ λ out. absurd (not_it n.child (ap is_some is) (sym (its_target n h out)))
        ] refl;
      }

  -- the names of each case
  pub moves : (target : Option ℕ) → option_map (λ (n : Name). n.child) (find (is_named to new) names) ≡ target → IfSome target (λ t. child ≢ t) → IfSome target (λ t. (n : Name) → IsIn n names → n.directory ≡ t → ⊥)
      → Moves kinds (λ k. option_map_or (λ t. after (has_name rest t) kinds t k) target (kinds k)) names rest child to new
  moves None taken apart empty = moves_all (there_is it.name it.present it.child_is) (λ n h out. absurd (not_found (λ n. n.child) (is_named to new) names taken n h (flipped _ out)))
    where
      there_is : (n : Name) → IsIn n names → n.child ≡ child → IsSome (kinds child)
      there_is n h at = subst (λ k. IsSome (kinds k)) at (rooted.ends n h).1
  moves (Some target) taken apart empty =
      elim (has_name rest target) as (λ s. has_name rest target ≡ s → Moves kinds (λ k. after s kinds target k) names rest child to new) [
        | true ↦ λ has. subst (λ alive. Moves kinds alive names rest child to new) (sym (fun_ext (after_stays kinds target))) (moves_all there_it (λ n h out.
            let other_one = any_passes (λ n. n.child == target) rest has in
            (other_one.name, other_one.present, (Decides-eqb other_one.name.child target).0 other_one.passes ∙ sym (its_child kinds names rooted to new target taken n h out))))
        | false ↦ λ has. moves_but target taken apart there_it empty has
      ] refl
    where
      there_it : IsSome (kinds child)
      there_it = subst (λ k. IsSome (kinds k)) it.child_is (rooted.ends it.name it.present).1

-- ---- the objects

-- the objects once a target has lost its name
abbrev left_of : List Name → Option ℕ → At → List (ℕ × Object) → List (ℕ × Object)
left_of names target at es = option_map_or (λ t. released names t at es) target es

-- a value of each object after the change
read_moved : {X : Type 0} (read : Object → X) (from to child : ℕ) (names : List Name) (target : Option ℕ) (at : At) (es : List (ℕ × Object))
    → ((o : Object) → read (touched at o) ≡ read o) → ((o : Object) → read (retold at o) ≡ read o)
    → (k : ℕ) → option_map read (lookup (is_at (nat_cmp k)) (changed to (touched at) (changed from (touched at) (changed child (retold at) (left_of names target at es)))))
    ≡ option_map_or (λ t. after (has_name names t) (λ k. option_map read (lookup (is_at (nat_cmp k)) es)) t k) target (option_map read (lookup (is_at (nat_cmp k)) es))
read_moved read from to child names target at es touching retelling k =
    option_map-changed read to (touched at) (changed from (touched at) (changed child (retold at) (left_of names target at es))) touching k
    ∙ option_map-changed read from (touched at) (changed child (retold at) (left_of names target at es)) touching k
    ∙ option_map-changed read child (retold at) (left_of names target at es) retelling k
    ∙ elim target as (λ target. option_map read (lookup (is_at (nat_cmp k)) (left_of names target at es)) ≡ option_map_or (λ t. after (has_name names t) (λ k. option_map read (lookup (is_at (nat_cmp k)) es)) t k) target (option_map read (lookup (is_at (nat_cmp k)) es))) [
      | None ↦ refl
      | Some t ↦ read_released read names t at es retelling k
    ]

moved_some : {X : Type 0} (names : List Name) (target : Option ℕ) (old : ℕ → Option X) (k : ℕ) (x : X) → option_map_or (λ t. after (has_name names t) old t k) target (old k) ≡ Some x → old k ≡ Some x
moved_some names None old k x is = is
moved_some names (Some t) old k x is = after_some (has_name names t) old t k x is

IsHeld-left : {l : Limits} (names : List Name) (target : Option ℕ) (at : At) (es : List (ℕ × Object)) (n t : ℕ) → at.tick < t → IsHeld l es n t → IsHeld l (left_of names target at es) n t
IsHeld-left names None at es n t due held = held
IsHeld-left names (Some target) at es n t due held = IsHeld-released names target at es n t due held

-- ---- the way up

pub directory_at : (w : World) (k : ℕ) → kind_of w k ≡ Some Directory → is_directory_at w k ≡ true
directory_at w k is = there (object w k) is
  where
    there : (o : Option Object) → option_map (λ (o : Object). o.kind) o ≡ Some Directory → option_map_or is_directory (option_map (λ (o : Object). o.kind) o) false ≡ true
    there None is = cc
    there (Some o) is = let kind : o.kind ≡ Directory = cc in ap is_directory kind

pub parents_of : (w : World) (k : ℕ) → kind_of w k ≡ Some Directory → parent_of w k ≡ option_map (λ (n : Name). n.directory) (find (λ n. n.child == k) w.names)
parents_of w k is = ap (λ b. cond b (option_map (λ (n : Name). n.directory) (find (λ n. n.child == k) w.names)) None) (directory_at w k is)

-- ---- whether there is room

-- why the directory has room: it loses the old name, or the target's, or it wasn't full
pub data Room (w : World) (from to : ℕ) (target : Option ℕ) : Type 0 where
  same : from ≡ to → Room w from to target
  replaced : IsSome target → Room w from to target
  wide : name_count w.names to < w.limits.names → Room w from to target

pub IsSound-with_move : (w : World) → IsSound w → (from : ℕ) (old : List ℕ) (to : ℕ) (new : List ℕ) (child : ℕ) (target : Option ℕ) (at : At) → IsTick w at.tick
    → kind_of w to ≡ Some Directory → child_named w from old ≡ Some child → child_named w to new ≡ target
    → IfSome target (λ t. child ≢ t) → IfSome target (λ t. (n : Name) → IsIn n w.names → n.directory ≡ t → ⊥)
    → (kind_of w child ≡ Some Directory → is_within w child to ≡ false)
    → length new ≤ MAX_NAME → Room w from to target → w.next_cookie < 2 ^ 63
    → IsSound (with_move w from old (given_name w to new child) target at)
IsSound-with_move w sound from old to new child target at tick live named taken apart empty clear short room cookie =
    let due : at.tick < at.tick + 1 = omega arith in
    let names = other_names to new (other_names from old w.names) in
    let alive : (ℕ → Option Kind) = λ k. option_map_or (λ t. after (has_name names t) (kind_of w) t k) target (kind_of w k) in
    let kinds : kind_of (with_move w from old (given_name w to new child) target at) ≡ alive = fun_ext (read_moved (λ o. o.kind) from to child names target at w.objects (λ o. refl) (λ o. refl)) in
    let held = IsHeld-touched to at _ w.next_number (at.tick + 1) due (IsHeld-touched from at _ w.next_number (at.tick + 1) due (IsHeld-retold child at _ w.next_number (at.tick + 1) due
    (IsHeld-left names target at w.objects w.next_number (at.tick + 1) due (IsHeld-later w.objects w.next_number w.next_tick (at.tick + 1) tick.fresh (held_in w sound))))) in
    let moves_is = moves (kind_of w) w.names sound.rooted from old to new child old_child live target (child_sought w.names to new ∙ taken) apart empty in
    let goes_first = goes (kind_of w) w.names sound.rooted from old child old_child in
    let first_out : not (is_named from old goes_first.name) ≡ false = ap not goes_first.passes in
    let fewer_links : link_count (other_names from old w.names) child < link_count w.names child = count_by-filter_out (λ n. n.child == child) (λ n. not (is_named from old n)) w.names goes_first.name goes_first.present ((Decides-eqb goes_first.name.child child).1 goes_first.child_is) first_out in
    let links : link_count names child ≤ link_count (other_names from old w.names) child = count_by-filter (λ n. n.child == child) (λ n. not (is_named to new n)) (other_names from old w.names) in
    let most : link_count w.names child ≤ w.limits.links = sound.limited.links child in
    record {
      rooted = subst (λ k. IsRooted k (with_move w from old (given_name w to new child) target at).names) (sym kinds)
          (IsRooted-moved (kind_of w) alive w.names names child to w.next_cookie new (parent_of w) w.next_number sound.rooted moves_is (parents_of w)
          (λ is. clear (moved_some names target (kind_of w) child Directory is)));
      stamped = IsStamped-fewer (stamp_of w) _ w.next_stamp (λ k s is. moved_some names target (stamp_of w) k s (sym (read_moved (λ o. o.stamp) from to child names target at w.objects (λ o. refl) (λ o. refl) k) ∙ is)) sound.stamped;
      numbered = held.numbered;
      listed = Rises-push (λ n. n.cookie) 3 w.next_cookie names _ refl (Rises-filter (λ n. n.cookie) _ 3 w.next_cookie _ (Rises-filter (λ n. n.cookie) _ 3 w.next_cookie w.names sound.listed));
      few = held.few;
      fit = held.fit;
      limited = IsLimited-push names _ (IsLimited-filter _ _ (IsLimited-filter _ w.names sound.limited)) (space room) (let goal : link_count names child < w.limits.links = omega (arith, fewer_links, links, most) in goal) short;
      allowed = sound.allowed;
      counted = record {
        numbers = sound.counted.numbers;
        ticks = (let goal : at.tick + 1 ≤ 2 ^ 63 = omega (arith, tick.left) in goal);
        stamps = sound.counted.stamps;
        cookies = (let goal : w.next_cookie + 1 ≤ 2 ^ 63 = omega (arith, cookie) in goal);
      };
    }
  where
    old_child : option_map (λ (n : Name). n.child) (find (is_named from old) w.names) ≡ Some child
    old_child = child_sought w.names from old ∙ named

    names_le : name_count (other_names to new (other_names from old w.names)) to ≤ name_count (other_names from old w.names) to
    names_le = name_count-filter (λ n. not (is_named to new n)) (other_names from old w.names) to

    first_le : name_count (other_names from old w.names) to ≤ name_count w.names to
    first_le = name_count-filter (λ n. not (is_named from old n)) w.names to

    all_le : name_count w.names to ≤ w.limits.names
    all_le = sound.limited.directories to

    space : Room w from to target → name_count (other_names to new (other_names from old w.names)) to < w.limits.names
    space (same at) =
        let it = goes (kind_of w) w.names sound.rooted from old child old_child in
        let out : not (is_named from old it.name) ≡ false = ap not it.passes in
        let less : name_count (other_names from old w.names) to < name_count w.names to = name_count-filter_out (λ n. not (is_named from old n)) w.names to it.name it.present (named_directory from old it.name it.passes ∙ at) out in
        omega (arith, names_le, first_le, all_le, less)
    space (wide below) = omega (arith, names_le, first_le, below)
    space (replaced there) = by_target target taken apart there
      where
        by_target : (target : Option ℕ) → child_named w to new ≡ target → IfSome target (λ t. child ≢ t) → IsSome target → name_count (other_names to new (other_names from old w.names)) to < w.limits.names
        by_target None taken apart there = let no : is_some {T = ℕ} None ≡ true = there in cc
        by_target (Some t) taken apart there =
            let it = goes (kind_of w) w.names sound.rooted to new t (child_sought w.names to new ∙ taken) in
            let out : not (is_named to new it.name) ≡ false = ap not it.passes in
            let stays : IsIn it.name (other_names from old w.names) = in_filter (λ n. not (is_named from old n)) it.name w.names it.present
            (elim (not (is_named from old it.name)) as (λ b. not (is_named from old it.name) ≡ b → b ≡ true) [
              | true ↦ λ _. refl
              | false ↦ λ removed. absurd (apart (sym (its_child (kind_of w) w.names sound.rooted from old child old_child it.name it.present removed) ∙ it.child_is))
            ] refl) in
            let less : name_count (other_names to new (other_names from old w.names)) to < name_count (other_names from old w.names) to = name_count-filter_out (λ n. not (is_named to new n)) (other_names from old w.names) to it.name stays (named_directory to new it.name it.passes) out in
            omega (arith, first_le, all_le, less)

pub KeepsJudged-with_move : (w : World) (from : ℕ) (old : List ℕ) (to : ℕ) (new : List ℕ) (child : ℕ) (target : Option ℕ) (at : At) → KeepsJudged w (with_move w from old (given_name w to new child) target at)
KeepsJudged-with_move w from old to new child target at = record {
  stamps_rise = omega arith;
  same = λ k j is _. moved_some (other_names to new (other_names from old w.names)) target (judged_of w) k j (sym (read_moved judged from to child (other_names to new (other_names from old w.names)) target at w.objects (λ o. refl) (λ o. refl) k) ∙ is);
}

-- ---- moves that aren't refused

pub record MayMove (w : World) (from to child : ℕ) (target : Option ℕ) : Type 0 where
  pub clear : kind_of w child ≡ Some Directory → is_within w child to ≡ false
  pub empty : IfSome target (λ t. (n : Name) → IsIn n w.names → n.directory ≡ t → ⊥)
  pub room : Room w from to target
  pub cookie : w.next_cookie < 2 ^ 63

cleared : (w : World) (child to : ℕ) → is_below (kind_of w) (parent_of w) w.next_number child to ≡ false → kind_of w child ≡ Some Directory → is_within w child to ≡ false
cleared w child to not_below is = ap (λ b. b && is_within w child to) (sym (directory_at w child is)) ∙ not_below

left_below : (next : ℕ) → has_left next ≡ true → next < 2 ^ 63
left_below next is = (Decides-ltb next (2 ^ 63)).0 is

last : (a b : Bool) → (a && b) ≡ true → b ≡ true
last true b h = h
last false b h = cc

roomy : (w : World) (from to : ℕ) → ((from == to) || has_room w.limits (name_count w.names to)) ≡ true → Room w from to None
roomy w from to is = elim (from == to) as (λ b. (from == to) ≡ b → (b || has_room w.limits (name_count w.names to)) ≡ true → Room w from to None) [
  | true ↦ λ at _. same ((Decides-eqb from to).0 at)
  | false ↦ λ _ h. wide ((Decides-ltb (name_count w.names to) w.limits.names).0 h)
] refl is

moves_in : (w : World) (from to : ℕ) (target : Option ℕ) → may_move w.limits (name_count w.names to) w.next_cookie from to target ≡ true → Room w from to target × (w.next_cookie < 2 ^ 63)
moves_in w from to None may = (
  roomy w from to (prefix ((from == to) || has_room w.limits (name_count w.names to)) (has_left w.next_cookie) may),
  left_below w.next_cookie (last ((from == to) || has_room w.limits (name_count w.names to)) (has_left w.next_cookie) may),
)
  where
    prefix : (a b : Bool) → (a && b) ≡ true → a ≡ true
    prefix true b h = refl
    prefix false b h = cc
moves_in w from to (Some target) may = (replaced refl, left_below w.next_cookie may)

emptied : (w : World) → IsSound w → (child : ℕ) (target : Option ℕ) → may_replace (kind_of w) (has_entries w.names) child target ≡ true → IfSome target (λ t. (n : Name) → IsIn n w.names → n.directory ≡ t → ⊥)
emptied w sound child None may = tt
emptied w sound child (Some target) may = λ n present at.
    let is_directory : is_directory_at w target ≡ true = directory_at w target (subst (λ k. kind_of w k ≡ Some Directory) at (sound.rooted.ends n present).0) in
    elim (is_directory_at w child) as (λ b. cond b (is_directory_at w target && not (has_entries w.names target)) (not (is_directory_at w target)) ≡ true → ⊥) [
      | true ↦ λ h. none_passes (λ n. n.directory == target) w.names (flipped_back (has_entries w.names target) (last (is_directory_at w target) (not (has_entries w.names target)) h)) n present ((Decides-eqb n.directory target).1 at)
      | false ↦ λ h. let f : not (is_directory_at w target) ≡ false = ap not is_directory in cc
    ] may

pub unrefused_move : (w : World) → IsSound w → (from to child : ℕ) (target : Option ℕ) → is_below (kind_of w) (parent_of w) w.next_number child to ≡ false
    → may_replace (kind_of w) (has_entries w.names) child target ≡ true → may_move w.limits (name_count w.names to) w.next_cookie from to target ≡ true → MayMove w from to child target
unrefused_move w sound from to child target below replaces moves =
    let m = moves_in w from to target moves in
    record { clear = cleared w child to below; empty = emptied w sound child target replaces; room = m.0; cookie = m.1 }

-- a target that isn't the child is another object, if there is one
pub another : (child : ℕ) (target : Option ℕ) → is_one (Some child) target ≡ false → target ≡ Some child → ⊥
another child target differs equal =
    let same : is_one (Some child) target ≡ true = ap (λ o. is_one (Some child) o) equal ∙ (Decides-eqb child child).1 refl in cc

pub target_apart : (child : ℕ) (target : Option ℕ) → (target ≡ Some child → ⊥) → IfSome target (λ t. child ≢ t)
target_apart child None apart = tt
target_apart child (Some t) apart = λ same. apart (ap Some (sym same))

-- a move that isn't refused keeps the tree sound
pub IsSound-unrefused_move : (w : World) → IsSound w → (from : ℕ) (old : List ℕ) (to : ℕ) (new : List ℕ) (child : ℕ) (target : Option ℕ) (at : At) → IsTick w at.tick
    → kind_of w to ≡ Some Directory → length new ≤ MAX_NAME → child_named w from old ≡ Some child → child_named w to new ≡ target → (target ≡ Some child → ⊥)
    → is_below (kind_of w) (parent_of w) w.next_number child to ≡ false → may_replace (kind_of w) (has_entries w.names) child target ≡ true
    → may_move w.limits (name_count w.names to) w.next_cookie from to target ≡ true → IsSound (with_move w from old (given_name w to new child) target at)
IsSound-unrefused_move w sound from old to new child target at tick live short named taken apart below replaces moves =
    let may = unrefused_move w sound from to child target below replaces moves in
    IsSound-with_move w sound from old to new child target at tick live named taken (target_apart child target apart) may.empty may.clear short may.room may.cookie
