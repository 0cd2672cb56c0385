-- A sound world stays sound when an object gets a name: a new object, or an object that isn't a directory.
use Rattle.std.proofs.Common.{◌≡◌, ◌≢◌, ℕ, ◌+◌, ◌<◌, ◌≤◌, ◌^◌, Bool, true, false, cond, List, length, refl, ap, sym, ◌∙◌, subst, arith, Some, None}
use Rattle.std.specs.Prelude.{Option, IsSome, is_some, ◌==◌, ◌&&◌, not, nat_lt}
use Rattle.std.specs.Ordering.{nat_cmp}
use Rattle.std.specs.Map.{lookup}
use Rattle.std.specs.BTreeMap.{is_at, insert_entry}
use Rattle.std.specs.Option.{option_map}
use Rattle.std.proofs.lemmas.Bool.Decides.{Decides-eqb, Decides-ltb}
use Rattle.acl_list.specs.declared.entry.Kind.TheVariants.{Directory}
use Rattle.node_tree.specs.declared.at.At.{At}
use Rattle.node_tree.specs.Limits.{MAX_NAME}
use Rattle.node_tree.specs.World.{World, Object, object, kind_of, child_named, name_count, link_count}
use Rattle.node_tree.specs.Changes.{changed, touched, retold, with_new, with_link}
use Rattle.node_tree.specs.Refusals.{has_left, has_room, has_object_room, may_link, may_name, may_add, add_refusal, link_refusal}
use Rattle.node_tree.specs.declared.fault.TreeFault.TheVariants.{Exist, MLink, NoSpc}
use Rattle.node_tree.specs.Judged.{Judged, judged, judged_of, KeepsJudged}
use Rattle.node_tree.specs.Sound.{stamp_of, IsRooted, IsStamped, IsFit, IsSound, IsTick}
use Rattle.node_tree.proofs.Objects.{is_at-same, is_at-apart, by_number, lookup-inserted, option_map-changed}
use Rattle.node_tree.proofs.Rising.{Rises-push, number-below}
use Rattle.node_tree.proofs.Names.{child_sought, count_by-none, IsLimited-push}
use Rattle.node_tree.proofs.Holding.{IsHeld-later, IsHeld-touched, IsHeld-retold, IsHeld-inserted}
use Rattle.node_tree.proofs.Stamps.{Joins, IsStamped-joined}
use Rattle.node_tree.proofs.Rooted.{IsRooted-joined, IsRooted-linked}
use Rattle.node_tree.proofs.Setting.{held_in}
use mathlib.Core.Path.{fun_ext}

-- ---- a new object

joins_new : {X : Type 0} (read : Object → X) (es : List (ℕ × Object)) (number directory : ℕ) (o : Object) (at : At) → ((o : Object) → read (touched at o) ≡ read o)
    → Joins (λ k. option_map read (lookup (is_at (nat_cmp k)) es)) (λ k. option_map read (lookup (is_at (nat_cmp k)) (changed directory (touched at) (insert_entry nat_cmp es number o)))) number (read o)
joins_new read es number directory o at touching = record {
  there = seen number ∙ ap (λ b. option_map read (cond b (Some o) (lookup (is_at (nat_cmp number)) es))) (is_at-same number);
  elsewhere = λ k apart. seen k ∙ ap (λ b. option_map read (cond b (Some o) (lookup (is_at (nat_cmp k)) es))) (is_at-apart k number (λ same. apart (sym same)));
}
  where
    seen : (k : ℕ) → option_map read (lookup (is_at (nat_cmp k)) (changed directory (touched at) (insert_entry nat_cmp es number o))) ≡ option_map read (cond (is_at (nat_cmp k) number) (Some o) (lookup (is_at (nat_cmp k)) es))
    seen k = option_map-changed read directory (touched at) (insert_entry nat_cmp es number o) touching k ∙ ap (option_map read) (lookup-inserted number k o es)

-- no object has the next number
fresh_number : (w : World) → IsSound w → (k : ℕ) → IsSome (kind_of w k) → w.next_number ≢ k
fresh_number w sound k h = there (object w k) refl h
  where
    there : (found : Option Object) → object w k ≡ found → IsSome (option_map (λ (o : Object). o.kind) found) → w.next_number ≢ k
    there None is h same = cc
    there (Some o) is h same = let b : k < w.next_number = number-below 1 w.next_number w.objects k o sound.numbered is in omega arith

pub IsSound-with_new : (w : World) → IsSound w → (directory : ℕ) (name : List ℕ) (o : Object) (at : At) → IsTick w at.tick
    → kind_of w directory ≡ Some Directory → child_named w directory name ≡ None → length name ≤ MAX_NAME → IsFit w.limits (at.tick + 1) o → o.stamp ≡ w.next_stamp
    → name_count w.names directory < w.limits.names → length w.objects < w.limits.objects → w.next_number < 2 ^ 63 → w.next_stamp < 2 ^ 63 → w.next_cookie < 2 ^ 63
    → IsSound (with_new w directory name o at)
IsSound-with_new w sound directory name o at tick live none short fit stamped room few number stamp cookie =
    let due : at.tick < at.tick + 1 = omega arith in
    let held = IsHeld-touched directory at _ (w.next_number + 1) (at.tick + 1) due
    (IsHeld-inserted w.objects w.next_number (at.tick + 1) o fit few (IsHeld-later w.objects w.next_number w.next_tick (at.tick + 1) tick.fresh (held_in w sound))) in
    let no_links : link_count w.names w.next_number ≡ 0 = count_by-none (λ n. n.child == w.next_number) w.names (λ n present is. fresh_number w sound n.child (sound.rooted.ends n present).1 (sym ((Decides-eqb n.child w.next_number).0 is))) in
    record {
      rooted = IsRooted-joined (kind_of w) _ w.names w.next_number w.next_cookie directory name o.kind sound.rooted (joins_new (λ o. o.kind) w.objects w.next_number directory o at (λ o. refl)) (fresh_number w sound) live (child_sought w.names directory name ∙ none);
      stamped = IsStamped-joined (stamp_of w) _ w.next_number w.next_stamp sound.stamped
          (subst (λ s. Joins (stamp_of w) (stamp_of (with_new w directory name o at)) w.next_number s) stamped (joins_new (λ o. o.stamp) w.objects w.next_number directory o at (λ o. refl)));
      numbered = held.numbered;
      listed = Rises-push (λ n. n.cookie) 3 w.next_cookie w.names _ refl sound.listed;
      few = held.few;
      fit = held.fit;
      limited = IsLimited-push w.names _ sound.limited room (let goal : link_count w.names w.next_number < w.limits.links = omega (arith, no_links, sound.allowed.links) in goal) short;
      allowed = sound.allowed;
      counted = record {
        numbers = (let goal : w.next_number + 1 ≤ 2 ^ 63 = omega (arith, number) in goal);
        ticks = (let goal : at.tick + 1 ≤ 2 ^ 63 = omega (arith, tick.left) in goal);
        stamps = (let goal : w.next_stamp + 1 ≤ 2 ^ 63 = omega (arith, stamp) in goal);
        cookies = (let goal : w.next_cookie + 1 ≤ 2 ^ 63 = omega (arith, cookie) in goal);
      };
    }

pub KeepsJudged-with_new : (w : World) (directory : ℕ) (name : List ℕ) (o : Object) (at : At) → o.stamp ≡ w.next_stamp → KeepsJudged w (with_new w directory name o at)
KeepsJudged-with_new w directory name o at stamped =
    let joins = joins_new judged w.objects w.next_number directory o at (λ o. refl) in
    record {
      stamps_rise = omega arith;
      same = λ k j is low. by_number w.next_number k
          (λ here. let t : judged_of (with_new w directory name o at) k ≡ Some (judged o) = subst (λ k. judged_of (with_new w directory name o at) k ≡ Some (judged o)) here joins.there in
          let same : judged o ≡ j = cc in let e : o.stamp ≡ j.stamp = ap (λ (j : Judged). j.stamp) same in absurd (omega arith))
          (λ apart. sym (joins.elsewhere k apart) ∙ is);
    }

-- ---- another name

read_linked : {X : Type 0} (read : Object → X) (directory number : ℕ) (at : At) (es : List (ℕ × Object)) → ((o : Object) → read (touched at o) ≡ read o) → ((o : Object) → read (retold at o) ≡ read o)
    → (k : ℕ) → option_map read (lookup (is_at (nat_cmp k)) (changed directory (touched at) (changed number (retold at) es))) ≡ option_map read (lookup (is_at (nat_cmp k)) es)
read_linked read directory number at es touching retelling k =
    option_map-changed read directory (touched at) (changed number (retold at) es) touching k ∙ option_map-changed read number (retold at) es retelling k

pub IsSound-with_link : (w : World) → IsSound w → (directory : ℕ) (name : List ℕ) (number : ℕ) (at : At) → IsTick w at.tick
    → kind_of w directory ≡ Some Directory → IsSome (object w number) → kind_of w number ≢ Some Directory → child_named w directory name ≡ None → length name ≤ MAX_NAME
    → name_count w.names directory < w.limits.names → link_count w.names number < w.limits.links → w.next_cookie < 2 ^ 63
    → IsSound (with_link w directory name number at)
IsSound-with_link w sound directory name number at tick live there plain none short room links cookie =
    let due : at.tick < at.tick + 1 = omega arith in
    let kinds : kind_of (with_link w directory name number at) ≡ kind_of w = fun_ext (read_linked (λ o. o.kind) directory number at w.objects (λ o. refl) (λ o. refl)) in
    let stamps : stamp_of (with_link w directory name number at) ≡ stamp_of w = fun_ext (read_linked (λ o. o.stamp) directory number at w.objects (λ o. refl) (λ o. refl)) in
    let held = IsHeld-touched directory at _ w.next_number (at.tick + 1) due (IsHeld-retold number at w.objects w.next_number (at.tick + 1) due
    (IsHeld-later w.objects w.next_number w.next_tick (at.tick + 1) tick.fresh (held_in w sound))) in
    record {
      rooted = subst (λ k. IsRooted k (with_link w directory name number at).names) (sym kinds) (IsRooted-linked (kind_of w) w.names number w.next_cookie directory name sound.rooted live (alive (object w number) there) plain (child_sought w.names directory name ∙ none));
      stamped = subst (λ s. IsStamped s w.next_stamp) (sym stamps) sound.stamped;
      numbered = held.numbered;
      listed = Rises-push (λ n. n.cookie) 3 w.next_cookie w.names _ refl sound.listed;
      few = held.few;
      fit = held.fit;
      limited = IsLimited-push w.names _ sound.limited room links short;
      allowed = sound.allowed;
      counted = record {
        numbers = sound.counted.numbers;
        ticks = (let goal : at.tick + 1 ≤ 2 ^ 63 = omega (arith, tick.left) in goal);
        stamps = sound.counted.stamps;
        cookies = (let goal : w.next_cookie + 1 ≤ 2 ^ 63 = omega (arith, cookie) in goal);
      };
    }
  where
    alive : (o : Option Object) → IsSome o → IsSome (option_map (λ (o : Object). o.kind) o)
    alive None h = h
    alive (Some o) h = refl

pub KeepsJudged-with_link : (w : World) (directory : ℕ) (name : List ℕ) (number : ℕ) (at : At) → KeepsJudged w (with_link w directory name number at)
KeepsJudged-with_link w directory name number at = record {
  stamps_rise = omega arith;
  same = λ k j is _. sym (read_linked judged directory number at w.objects (λ o. refl) (λ o. refl) k) ∙ is;
}

-- ---- changes that aren't refused

absent : {X : Type 0} (o : Option X) → is_some o ≡ false → o ≡ None
absent None h = refl
absent (Some x) h = cc

both : (a b : Bool) → (a && b) ≡ true → (a ≡ true) × (b ≡ true)
both true b h = (refl, h)
both false b h = cc

below : (a b : ℕ) → nat_lt a b ≡ true → a < b
below a b is = (Decides-ltb a b).0 is

-- no refusal after the last test means that the test passed
passed : (may : Bool) → None ≡ cond may None (Some NoSpc) → may ≡ true
passed true h = refl
passed false h = cc

pub record MayAdd (w : World) (directory : ℕ) (name : List ℕ) : Type 0 where
  pub none : child_named w directory name ≡ None
  pub room : name_count w.names directory < w.limits.names
  pub few : length w.objects < w.limits.objects
  pub number : w.next_number < 2 ^ 63
  pub stamp : w.next_stamp < 2 ^ 63
  pub cookie : w.next_cookie < 2 ^ 63

pub unrefused_add : (w : World) (directory : ℕ) (name : List ℕ) → None ≡ add_refusal w directory name → MayAdd w directory name
unrefused_add w directory name none =
    let may = may_add w.limits (name_count w.names directory) (length w.objects) w.next_number w.next_stamp w.next_cookie in
    elim (is_some (child_named w directory name)) as (λ b. is_some (child_named w directory name) ≡ b → None ≡ cond b (Some Exist) (cond may None (Some NoSpc)) → MayAdd w directory name) [
      | true ↦ λ _ h. cc
      | false ↦ λ removed h.
          let a1 = has_room w.limits (name_count w.names directory) in
          let a2 = has_object_room w.limits (length w.objects) in
          let a3 = has_left w.next_number in
          let a4 = has_left w.next_stamp in
          let b5 = both (a1 && a2 && a3 && a4) (has_left w.next_cookie) (passed may h) in
          let b4 = both (a1 && a2 && a3) a4 b5.0 in
          let b3 = both (a1 && a2) a3 b4.0 in
          let b2 = both a1 a2 b3.0 in
          record {
            none = absent (child_named w directory name) removed;
            room = below (name_count w.names directory) w.limits.names b2.0;
            few = below (length w.objects) w.limits.objects b2.1;
            number = below w.next_number (2 ^ 63) b3.1;
            stamp = below w.next_stamp (2 ^ 63) b4.1;
            cookie = below w.next_cookie (2 ^ 63) b5.1;
          }
    ] refl none

pub record MayLink (w : World) (directory : ℕ) (name : List ℕ) (number : ℕ) : Type 0 where
  pub none : child_named w directory name ≡ None
  pub links : link_count w.names number < w.limits.links
  pub room : name_count w.names directory < w.limits.names
  pub cookie : w.next_cookie < 2 ^ 63

pub unrefused_link : (w : World) (directory : ℕ) (name : List ℕ) (number : ℕ) → None ≡ link_refusal w directory name number → MayLink w directory name number
unrefused_link w directory name number none =
    let may = may_name w.limits (name_count w.names directory) w.next_cookie in
    elim (is_some (child_named w directory name)) as (λ b. is_some (child_named w directory name) ≡ b → None ≡ cond b (Some Exist) (cond (not (may_link w.limits (link_count w.names number))) (Some MLink) (cond may None (Some NoSpc))) → MayLink w directory name number) [
      | true ↦ λ _ h. cc
      | false ↦ λ removed. elim (may_link w.limits (link_count w.names number)) as (λ b. may_link w.limits (link_count w.names number) ≡ b → None ≡ cond (not b) (Some MLink) (cond may None (Some NoSpc)) → MayLink w directory name number) [
        | false ↦ λ _ h. cc
        | true ↦ λ links h. let b = both (has_room w.limits (name_count w.names directory)) (has_left w.next_cookie) (passed may h) in
            record { none = absent (child_named w directory name) removed; links = below (link_count w.names number) w.limits.links links; room = below (name_count w.names directory) w.limits.names b.0; cookie = below w.next_cookie (2 ^ 63) b.1 }
      ] refl
    ] refl none
