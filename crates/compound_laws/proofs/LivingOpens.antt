-- The open files when the world changes.
use Rattle.std.proofs.Common.{◌≡◌, ◌≢◌, ℕ, ◌<◌, ◌≤◌, Bool, true, false, not, cond, ◌||◌, List, inl, inr, refl, sym, ap, ◌∙◌, subst, length, arith}
use Rattle.std.specs.Prelude.{[], ◌∷◌, ◌++◌, ◌==◌, Option, Some, None, IsSome, is_some, filter, find, nat_eq, nat_lt, nat_le, ◌&&◌, if◌then◌else◌}
use Rattle.std.specs.List.{AllByRecursion, list_all}
use Rattle.std.specs.Option.{option_map, option_map_or}
use Rattle.std.specs.Ordering.{nat_cmp}
use Rattle.std.specs.Map.{lookup}
use Rattle.std.specs.BTreeMap.{is_at, insert_entry}
use Rattle.std.specs.Cmp.Lexicographic.{pointwise}
use Rattle.std.proofs.lemmas.Bool.Decides.{Decides-eqb, nat_tests}
use Rattle.acl_list.specs.declared.entry.Kind.{Kind}
use Rattle.acl_list.specs.declared.entry.Kind.TheVariants.{File, Directory, Link}
use Rattle.who_book.specs.Content.{Content}
use Rattle.session_slots.specs.Registry.{Registry}
use Rattle.session_slots.proofs.Members.{length_filter}
use Rattle.node_tree.specs.declared.at.At.{At}
use Rattle.node_tree.specs.World.{World, Object, Name, object, kind_of, is_file, is_file_at, has_name, is_named, child_named, names_in, is_one}
use Rattle.node_tree.specs.Changes.{changed, touched, retold, without_name, unlinked, other_names, given_name, with_new, with_link, with_move}
use Rattle.node_tree.specs.Sound.{IsIn, IsSound}
use Rattle.node_tree.proofs.Objects.{is_at-same, is_at-apart, by_number, lookup-inserted, option_map-changed}
use Rattle.node_tree.proofs.Rising.{number-below}
use Rattle.node_tree.proofs.Unlinking.{after, after_elsewhere, after_was, after_stays, read_released}
use Rattle.compound_run.specs.Realm.{Realm, Opened, unopened, opens_left, with_loss}
use Rattle.compound_run.specs.Sessions.{with_registry}
use Rattle.compound_run.specs.State.{restored}
use Rattle.compound_run.specs.ClientState.{ClientState, is_next, open_fits, opens_fit, rise_above}
use Rattle.compound_laws.specs.LiveOpens.{IsKept, OpensHold}

-- ---- facts of each element of a list

pub each : {X : Type 0} (P Q : X → Type 0) (xs : List X) → ((x : X) → P x → Q x) → AllByRecursion P xs → AllByRecursion Q xs
each P Q [] f all = tt
each P Q (x ∷ xs) f all = (f x all.0, each P Q xs f all.1)

left_of : {X : Type 0} (Q : X → Type 0) (b : Bool) (x : X) (xs : List X) → (b ≡ true → Q x) → AllByRecursion Q xs → AllByRecursion Q (cond b (x ∷ xs) xs)
left_of Q true x xs first others = (first refl, others)
left_of Q false x xs first others = others

pub each_left : {X : Type 0} (P Q : X → Type 0) (p : X → Bool) (xs : List X) → ((x : X) → p x ≡ true → P x → Q x) → AllByRecursion P xs → AllByRecursion Q (filter p xs)
each_left P Q p [] f all = tt
each_left P Q p (x ∷ xs) f all = left_of Q (p x) x (filter p xs) (λ is. f x is all.0) (each_left P Q p xs f all.1)

pub one_more : {X : Type 0} (P : X → Type 0) (xs : List X) (x : X) → AllByRecursion P xs → P x → AllByRecursion P (xs ++ x ∷ [])
one_more P [] x all last = (last, tt)
one_more P (y ∷ xs) x all last = (all.0, one_more P xs x all.1 last)

of_first : {X : Type 0} (P : X → Type 0) (b : Bool) (y x : X) (more : Option X) → P y → (more ≡ Some x → P x) → cond b (Some y) more ≡ Some x → P x
of_first P true y x more here later is = let same : y ≡ x = cc in subst P same here
of_first P false y x more here later is = later is

pub of_found : {X : Type 0} (P : X → Type 0) (p : X → Bool) (xs : List X) (x : X) → AllByRecursion P xs → find p xs ≡ Some x → P x
of_found P p [] x all is = cc
of_found P p (y ∷ xs) x all is = of_first P (p y) y x (find p xs) all.0 (of_found P p xs x all.1) is

-- an open of an existing file, and a name of an existing object
abbrev pub LiveIn : World → Opened → Type 0
LiveIn w o = kind_of w o.object ≡ Some File

abbrev pub ChildExists : World → Name → Type 0
ChildExists w n = IsSome (kind_of w n.child)

-- the child of a name exists
pub of_child : (w : World) (directory : ℕ) (name : List ℕ) (child : ℕ) → IsKept w → child_named w directory name ≡ Some child → IsSome (kind_of w child)
of_child w directory name child kept is = of (find (λ (n : Name). pointwise nat_eq n.name name) (names_in w.names directory)) refl is
  where
    left : AllByRecursion (ChildExists w) (names_in w.names directory)
    left = each_left (ChildExists w) (ChildExists w) (λ (n : Name). n.directory == directory) w.names (λ n here there. there) kept.children_exist

    of : (o : Option Name) → find (λ (n : Name). pointwise nat_eq n.name name) (names_in w.names directory) ≡ o → option_map (λ (n : Name). n.child) o ≡ Some child → IsSome (kind_of w child)
    of None found is = cc
    of (Some n) found is =
        let same : n.child ≡ child = cc in
        subst (λ k. IsSome (kind_of w k)) same (of_found (ChildExists w) (λ (n : Name). pointwise nat_eq n.name name) (names_in w.names directory) n left found)

-- ---- a world in which no object is added or removed

pub record Same (w new : World) : Type 0 where
  pub kinds : (k : ℕ) → kind_of new k ≡ kind_of w k
  pub names : new.names ≡ w.names
  pub next : new.next_number ≡ w.next_number
  pub limits : new.limits ≡ w.limits

pub same_again : (w : World) → Same w w
same_again w = record { kinds = λ k. refl; names = refl; next = refl; limits = refl }

pub same_then : (w mid new : World) → Same w mid → Same mid new → Same w new
same_then w mid new a b = record { kinds = λ k. b.kinds k ∙ a.kinds k; names = b.names ∙ a.names; next = b.next ∙ a.next; limits = b.limits ∙ a.limits }

kept_same : (w new : World) → Same w new → IsKept w → IsKept new
kept_same w new same kept = record {
  children_exist = subst (λ names. AllByRecursion (ChildExists new) names) (sym same.names) (each (ChildExists w) (ChildExists new) w.names (λ n there. ap is_some (same.kinds n.child) ∙ there) kept.children_exist);
  numbered = λ number there. subst (λ next. number < next) (sym same.next) (kept.numbered number (ap is_some (sym (same.kinds number)) ∙ there));
}

live_same : (w new : World) (opens : List Opened) → ((k : ℕ) → kind_of new k ≡ kind_of w k) → AllByRecursion (LiveIn w) opens → AllByRecursion (LiveIn new) opens
live_same w new opens kinds live = each (LiveIn w) (LiveIn new) opens (λ o is. kinds o.object ∙ is) live

pub hold_same : (r : Realm) (new : World) → Same r.world new → OpensHold r → OpensHold (record r { world = new })
hold_same r new same hold = record { live = live_same r.world new r.opens same.kinds hold.live; few = subst (λ l. length r.opens ≤ l.opens) (sym same.limits) hold.few; kept = kept_same r.world new same hold.kept }

-- the law of open files doesn't depend on clients and sessions
pub hold_registry : (r : Realm) (registry : Registry) → OpensHold r → OpensHold (with_registry registry r)
hold_registry r registry hold = record { live = hold.live; few = hold.few; kept = hold.kept }

-- a change of one object that keeps its type
pub same_changed : (w : World) (number : ℕ) (f : Object → Object) (objects : List (ℕ × Object)) → ((o : Object) → (f o).kind ≡ o.kind) → objects ≡ changed number f w.objects
    → (k : ℕ) → option_map (λ (o : Object). o.kind) (lookup (is_at (nat_cmp k)) objects) ≡ kind_of w k
same_changed w number f objects keeps is k = ap (λ es. option_map (λ (o : Object). o.kind) (lookup (is_at (nat_cmp k)) es)) is ∙ option_map-changed (λ o. o.kind) number f w.objects keeps k

-- ---- LINK

pub hold_linked : (r : Realm) (directory : ℕ) (name : List ℕ) (number : ℕ) (at : At) → IsSome (kind_of r.world number) → OpensHold r → OpensHold (record r { world = with_link r.world directory name number at })
hold_linked r directory name number at there hold =
    let kinds : (k : ℕ) → kind_of (with_link r.world directory name number at) k ≡ kind_of r.world k =
    λ k. option_map-changed (λ o. o.kind) directory (touched at) (changed number (retold at) r.world.objects) (λ o. refl) k ∙ option_map-changed (λ o. o.kind) number (retold at) r.world.objects (λ o. refl) k in
    record {
      live = live_same r.world (with_link r.world directory name number at) r.opens kinds hold.live;
      few = hold.few;
      kept = record {
        children_exist = one_more (ChildExists (with_link r.world directory name number at)) r.world.names _ (each (ChildExists r.world) (ChildExists (with_link r.world directory name number at)) r.world.names (λ n is. ap is_some (kinds n.child) ∙ is) hold.kept.children_exist) (ap is_some (kinds number) ∙ there);
        numbered = λ k is. hold.kept.numbered k (ap is_some (sym (kinds k)) ∙ is);
      };
    }

-- ---- a new object

module _ (w : World) (directory : ℕ) (name : List ℕ) (o : Object) (at : At) (kept : IsKept w) where
  abbrev new : World
  new = with_new w directory name o at

  kinds_new : (k : ℕ) → kind_of new k ≡ option_map (λ (o : Object). o.kind) (cond (is_at (nat_cmp k) w.next_number) (Some o) (object w k))
  kinds_new k = option_map-changed (λ o. o.kind) directory (touched at) (insert_entry nat_cmp w.objects w.next_number o) (λ o. refl) k ∙ ap (option_map (λ (o : Object). o.kind)) (lookup-inserted w.next_number k o w.objects)

  pub kind_there : kind_of new w.next_number ≡ Some o.kind
  kind_there = kinds_new w.next_number ∙ ap (λ b. option_map (λ (o : Object). o.kind) (cond b (Some o) (object w w.next_number))) (is_at-same w.next_number)

  kind_elsewhere : (k : ℕ) → k ≢ w.next_number → kind_of new k ≡ kind_of w k
  kind_elsewhere k apart = kinds_new k ∙ ap (λ b. option_map (λ (o : Object). o.kind) (cond b (Some o) (object w k))) (is_at-apart k w.next_number apart)

  -- the objects that existed before are unchanged
  pub kind_stays : (k : ℕ) → IsSome (kind_of w k) → kind_of new k ≡ kind_of w k
  kind_stays k there = kind_elsewhere k (λ same. let below : k < w.next_number = kept.numbered k there in omega (arith, below, same))

  pub kept_new : IsKept new
  kept_new = record {
    children_exist = one_more (ChildExists new) w.names _ (each (ChildExists w) (ChildExists new) w.names (λ n there. ap is_some (kind_stays n.child there) ∙ there) kept.children_exist) (ap is_some kind_there);
    numbered = λ k there. by_number k w.next_number
        (λ same. omega (arith, same))
        (λ apart. let below : k < w.next_number = kept.numbered k (ap is_some (sym (kind_elsewhere k apart)) ∙ there) in omega (arith, below));
  }

  pub live_new : (opens : List Opened) → AllByRecursion (LiveIn w) opens → AllByRecursion (LiveIn new) opens
  live_new opens live = each (LiveIn w) (LiveIn new) opens (λ x is. kind_stays x.object (ap is_some is) ∙ is) live

pub hold_new : (r : Realm) (directory : ℕ) (name : List ℕ) (o : Object) (at : At) → OpensHold r → OpensHold (record r { world = with_new r.world directory name o at })
hold_new r directory name o at hold = record {
  live = live_new r.world directory name o at hold.kept r.opens hold.live;
  few = hold.few;
  kept = kept_new r.world directory name o at hold.kept;
}

-- ---- an object that has lost a name

-- the opens that remain are no more than before
few_left : (w : World) (lost : Option ℕ) (opens : List Opened) → length (opens_left w lost opens) ≤ length opens
few_left w None opens = omega arith
few_left w (Some number) opens = of (is_some (kind_of w number))
  where
    of : (b : Bool) → length (if b then opens else filter (λ (o : Opened). not (o.object == number)) opens) ≤ length opens
    of true = omega arith
    of false = length_filter (λ (o : Opened). not (o.object == number)) opens

pub hold_lost_none : (r : Realm) (lost : Option ℕ) → OpensHold r → OpensHold (with_loss r.world lost r)
hold_lost_none r lost hold = record { live = left lost; few = let less = few_left r.world lost r.opens in let few = hold.few in omega (arith, less, few); kept = hold.kept }
  where
    left : (lost : Option ℕ) → AllByRecursion (LiveIn r.world) (opens_left r.world lost r.opens)
    left None = hold.live
    left (Some number) = of (is_some (kind_of r.world number))
      where
        of : (b : Bool) → AllByRecursion (LiveIn r.world) (if b then r.opens else filter (λ (o : Opened). not (o.object == number)) r.opens)
        of true = hold.live
        of false = each_left (LiveIn r.world) (LiveIn r.world) (λ (o : Opened). not (o.object == number)) r.opens (λ o apart is. is) hold.live

-- a test that fails is of another number
elsewhere : (a b : ℕ) → not (a == b) ≡ true → b ≢ a
elsewhere a b test same = let is : (a == b) ≡ true = (Decides-eqb a b).1 (sym same) in cc

-- the name isn't one of the object
abbrev NamesAnother : ℕ → Name → Type 0
NamesAnother child n = child ≢ n.child

no_first : (b : Bool) (n : Name) (child : ℕ) (names : List Name) → (n.child == child) ≡ b → (has_name names child ≡ false → AllByRecursion (NamesAnother child) names) → b || has_name names child ≡ false → AllByRecursion (NamesAnother child) (n ∷ names)
no_first true n child names is others none = cc
no_first false n child names is others none = (elsewhere n.child child (ap not is), others none)

no_name : (names : List Name) (child : ℕ) → has_name names child ≡ false → AllByRecursion (NamesAnother child) names
no_name [] child none = tt
no_name (n ∷ names) child none = no_first (n.child == child) n child names refl (no_name names child) none

each_two : {X : Type 0} (P Q R : X → Type 0) (xs : List X) → ((x : X) → P x → Q x → R x) → AllByRecursion P xs → AllByRecursion Q xs → AllByRecursion R xs
each_two P Q R [] f p q = tt
each_two P Q R (x ∷ xs) f p q = (f x p.0 q.0, each_two P Q R xs f p.1 q.1)

-- The types of a world in which an object has lost a name, and these names remain. The object is removed if none of
-- them is its name.
pub record Loses (w new : World) (lost : ℕ) (names : List Name) : Type 0 where
  pub kinds : (k : ℕ) → kind_of new k ≡ after (has_name names lost) (kind_of w) lost k
  pub next : new.next_number ≡ w.next_number

module _ (w new : World) (lost : ℕ) (names : List Name) (loses : Loses w new lost names) where
  pub was : (k : ℕ) → IsSome (kind_of new k) → kind_of new k ≡ kind_of w k
  was k there = loses.kinds k ∙ after_was (has_name names lost) (kind_of w) lost k (ap is_some (sym (loses.kinds k)) ∙ there)

  pub other : (k : ℕ) → lost ≢ k → kind_of new k ≡ kind_of w k
  other k apart = loses.kinds k ∙ of (has_name names lost)
    where
      of : (b : Bool) → after b (kind_of w) lost k ≡ kind_of w k
      of true = after_stays (kind_of w) lost k
      of false = after_elsewhere (kind_of w) lost k apart

  -- if the object still exists, all objects do
  all_there : IsSome (kind_of new lost) → (k : ℕ) → kind_of new k ≡ kind_of w k
  all_there there k = by_number lost k (λ same. was k (subst (λ x. IsSome (kind_of new x)) same there)) (λ apart. other k apart)

  live_left : (opens : List Opened) → AllByRecursion (LiveIn w) opens → AllByRecursion (LiveIn new) (opens_left new (Some lost) opens)
  live_left opens live = of (is_some (kind_of new lost)) refl
    where
      of : (b : Bool) → is_some (kind_of new lost) ≡ b → AllByRecursion (LiveIn new) (if b then opens else filter (λ (o : Opened). not (o.object == lost)) opens)
      of true there = live_same w new opens (all_there there) live
      of false expired = each_left (LiveIn w) (LiveIn new) (λ (o : Opened). not (o.object == lost)) opens (λ o apart is. other o.object (elsewhere o.object lost apart) ∙ is) live

  -- names of an existing object still have it
  children_left : AllByRecursion (ChildExists w) names → AllByRecursion (ChildExists new) names
  children_left child_exists = of (has_name names lost) refl
    where
      of : (b : Bool) → has_name names lost ≡ b → AllByRecursion (ChildExists new) names
      of true is = each (ChildExists w) (ChildExists new) names (λ n there. ap is_some (loses.kinds n.child ∙ ap (λ b. after b (kind_of w) lost n.child) is ∙ after_stays (kind_of w) lost n.child) ∙ there) child_exists
      of false is = each_two (NamesAnother lost) (ChildExists w) (ChildExists new) names (λ n apart there. ap is_some (other n.child apart) ∙ there) (no_name names lost is) child_exists

  numbered_left : IsKept w → (k : ℕ) → IsSome (kind_of new k) → k < new.next_number
  numbered_left kept k there = subst (λ next. k < next) (sym loses.next) (kept.numbered k (ap is_some (sym (was k there)) ∙ there))

-- ---- REMOVE

removing : (w : World) (directory : ℕ) (name : List ℕ) (child : ℕ) (at : At) → Loses w (without_name w directory name child at) child (other_names directory name w.names)
removing w directory name child at = record {
  kinds = λ k. option_map-changed (λ o. o.kind) directory (touched at) _ (λ o. refl) k ∙ read_released (λ o. o.kind) (other_names directory name w.names) child at w.objects (λ o. refl) k;
  next = refl;
}

hold_without : (r : Realm) (directory : ℕ) (name : List ℕ) (child : ℕ) (at : At) → OpensHold r → OpensHold (with_loss (without_name r.world directory name child at) (Some child) r)
hold_without r directory name child at hold =
    let w = r.world in
    let new = without_name w directory name child at in
    let names = other_names directory name w.names in
    let loses = removing w directory name child at in
    record {
      live = live_left w new child names loses r.opens hold.live;
      few = let less = few_left new (Some child) r.opens in let few = hold.few in omega (arith, less, few);
      kept = record { children_exist = children_left w new child names loses (each_left (ChildExists w) (ChildExists w) (λ (n : Name). not (is_named directory name n)) w.names (λ n other there. there) hold.kept.children_exist); numbered = numbered_left w new child names loses hold.kept };
    }

pub hold_removed : (r : Realm) (directory : ℕ) (name : List ℕ) (at : At) (child : Option ℕ) → child_named r.world directory name ≡ child → OpensHold r → OpensHold (with_loss (unlinked r.world directory name at) child r)
hold_removed r directory name at None is hold = subst (λ (c : Option ℕ). OpensHold (with_loss (option_map_or (λ child. without_name r.world directory name child at) c r.world) None r)) (sym is) (hold_lost_none r None hold)
hold_removed r directory name at (Some child) is hold =
    subst (λ (c : Option ℕ). OpensHold (with_loss (option_map_or (λ child. without_name r.world directory name child at) c r.world) (Some child) r)) (sym is) (hold_without r directory name child at hold)

-- ---- RENAME

module _ (r : Realm) (from : ℕ) (old : List ℕ) (to : ℕ) (new : List ℕ) (child : ℕ) (at : At) (hold : OpensHold r) (there : IsSome (kind_of r.world child)) where
  abbrev names : List Name
  names = other_names to new (other_names from old r.world.names)

  children_before : AllByRecursion (ChildExists r.world) names
  children_before =
      each_left (ChildExists r.world) (ChildExists r.world) (λ (n : Name). not (is_named to new n)) (other_names from old r.world.names) (λ n other is. is)
      (each_left (ChildExists r.world) (ChildExists r.world) (λ (n : Name). not (is_named from old n)) r.world.names (λ n other is. is) hold.kept.children_exist)

  moving : (target : ℕ) → Loses r.world (with_move r.world from old (given_name r.world to new child) (Some target) at) target names
  moving target = record {
    kinds = λ k.
        option_map-changed (λ o. o.kind) to (touched at) _ (λ o. refl) k ∙ option_map-changed (λ o. o.kind) from (touched at) _ (λ o. refl) k
        ∙ option_map-changed (λ o. o.kind) child (retold at) _ (λ o. refl) k ∙ read_released (λ o. o.kind) names target at r.world.objects (λ o. refl) k;
    next = refl;
  }

  hold_replaced : (target : ℕ) → target ≢ child → OpensHold (with_loss (with_move r.world from old (given_name r.world to new child) (Some target) at) (Some target) r)
  hold_replaced target apart =
      let w = with_move r.world from old (given_name r.world to new child) (Some target) at in
      let loses = moving target in
      record {
        live = live_left r.world w target names loses r.opens hold.live;
        few = let less = few_left w (Some target) r.opens in let few = hold.few in omega (arith, less, few);
        kept = record {
          children_exist = one_more (ChildExists w) names _ (children_left r.world w target names loses children_before) (ap is_some (other r.world w target names loses child apart) ∙ there);
          numbered = numbered_left r.world w target names loses hold.kept;
        };
      }

  hold_moved : OpensHold (with_loss (with_move r.world from old (given_name r.world to new child) None at) None r)
  hold_moved =
      let w = with_move r.world from old (given_name r.world to new child) None at in
      let kinds : (k : ℕ) → kind_of w k ≡ kind_of r.world k =
      λ k. option_map-changed (λ o. o.kind) to (touched at) _ (λ o. refl) k ∙ option_map-changed (λ o. o.kind) from (touched at) _ (λ o. refl) k
      ∙ option_map-changed (λ o. o.kind) child (retold at) _ (λ o. refl) k in
      record {
        live = live_same r.world w r.opens kinds hold.live;
        few = hold.few;
        kept = record {
          children_exist = one_more (ChildExists w) names _ (each (ChildExists r.world) (ChildExists w) names (λ n is. ap is_some (kinds n.child) ∙ is) children_before) (ap is_some (kinds child) ∙ there);
          numbered = λ k is. hold.kept.numbered k (ap is_some (sym (kinds k)) ∙ is);
        };
      }

pub hold_renamed : (r : Realm) (from : ℕ) (old : List ℕ) (to : ℕ) (name : List ℕ) (at : At) (child target : Option ℕ) → child_named r.world from old ≡ child → child_named r.world to name ≡ target → OpensHold r
    → OpensHold (with_loss (if is_one child target then r.world else option_map_or (λ child. with_move r.world from old (given_name r.world to name child) target at) child r.world) target r)
hold_renamed r from old to name at None target is taken hold = hold_lost_none r target hold
hold_renamed r from old to name at (Some child) None is taken hold = hold_moved r from old to name child at hold (of_child r.world from old child hold.kept is)
hold_renamed r from old to name at (Some child) (Some target) is taken hold = of (child == target) refl
  where
    of : (b : Bool) → (child == target) ≡ b → OpensHold (with_loss (if b then r.world else with_move r.world from old (given_name r.world to name child) (Some target) at) (Some target) r)
    of true same = hold_lost_none r (Some target) hold
    of false apart = hold_replaced r from old to name child at hold (of_child r.world from old child hold.kept is) target (elsewhere child target (ap not apart))

-- ---- from the start

kept_sound : (w : World) → IsSound w → IsKept w
kept_sound w sound = record {
  children_exist = all_in w.names (λ n holds. (sound.rooted.ends n holds).1);
  numbered = λ k there. below k (object w k) refl there;
}
  where
    all_in : (names : List Name) → ((n : Name) → IsIn n names → IsSome (kind_of w n.child)) → AllByRecursion (ChildExists w) names
    all_in [] f = tt
    all_in (n ∷ names) f = (f n (inl refl), all_in names (λ m holds. f m (inr holds)))

    below : (k : ℕ) (o : Option Object) → object w k ≡ o → IsSome (option_map (λ (o : Object). o.kind) o) → k < w.next_number
    below k None is there = cc
    below k (Some o) is there = number-below 1 w.next_number w.objects k o sound.numbered is

pub hold_unopened : (w : World) → IsSound w → OpensHold (unopened w)
hold_unopened w sound = record { live = tt; few = omega arith; kept = kept_sound w sound }

-- ---- after a restart

both : (a b : Bool) → a && b ≡ true → (a ≡ true) × (b ≡ true)
both true true is = (refl, refl)
both true false is = cc
both false b is = cc

file_there : (kind : Option Kind) → option_map_or is_file kind false ≡ true → kind ≡ Some File
file_there None is = cc
file_there (Some File) is = refl
file_there (Some Directory) is = cc
file_there (Some Link) is = cc

-- open files that fit are of existing files
live_fit : (w : World) (registry : Registry) (next : ℕ) (opens : List Opened) → list_all (open_fits w registry next) opens ≡ true → AllByRecursion (LiveIn w) opens
live_fit w registry next [] fit = tt
live_fit w registry next (o ∷ opens) fit =
    let first = both (open_fits w registry next o) (list_all (open_fits w registry next) opens) fit in
    let numbered = both (nat_lt o.number next) _ first.0 in
    let there = both (is_file_at w o.object) _ numbered.1 in
    (file_there (kind_of w o.object) there.0, live_fit w registry next opens first.1)

few_fit : (n most : ℕ) → nat_le n most ≡ true → n ≤ most
few_fit n most is = grind (arith, nat_tests, is)

pub hold_restored : (w : World) (k : ClientState) (book : Content) (capacity : ℕ) → IsSound w → opens_fit w k ≡ true
    → OpensHold (restored w k book capacity).realm
hold_restored w k book capacity sound fit =
    let all = both (is_next k.next_open) _ fit in
    let few = both (nat_le (length k.opens) w.limits.opens) _ all.1 in
    let rising = both (rise_above 0 k.opens) _ few.1 in
    record { live = live_fit w k.registry k.next_open k.opens rising.1; few = few_fit (length k.opens) w.limits.opens few.0; kept = kept_sound w sound }
