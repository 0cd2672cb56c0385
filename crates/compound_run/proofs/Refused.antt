-- A tree refuses a change for the reasons that are checked before it.
use Rattle.std.proofs.Common.{◌≡◌, ℕ, ◌<◌, Bool, true, refl, subst, List}
use Rattle.std.specs.Prelude.{Option, Some, None, Result, Err, MatchOption, IsOkUnless, if◌then◌else◌}
use Rattle.std.proofs.lemmas.Bool.{lt-ltb}
use Rattle.node_tree.specs.declared.at.At.{At}
use Rattle.node_tree.specs.declared.fault.TreeFault.{TreeFault}
use Rattle.node_tree.specs.declared.fault.TreeFault.TheVariants.{NoSpc, Memory}
use Rattle.node_tree.specs.World.{World, child_named, is_one, link_count}
use Rattle.node_tree.specs.Changes.{renamed}
use Rattle.node_tree.specs.Refusals.{may_name, add_refusal, link_refusal}
use Rattle.compound_run.specs.Realm.{unopened}
use Rattle.compound_run.specs.Sight.{Sight, whole}
use Rattle.compound_run.specs.Meaning.{names_at}
use Rattle.compound_run.specs.Operations.Create.{can_add}

-- a change is refused for this reason
pub refused_by : {A : Type 0} (refusal : Option TreeFault) (fault : TreeFault) (result : Result A TreeFault) → refusal ≡ Some fault
    → MatchOption refusal (IsOkUnless result Memory) (λ f. result ≡ Err f) → result ≡ Err fault
refused_by refusal fault result is answer = subst (λ o. MatchOption o (IsOkUnless result Memory) (λ f. result ≡ Err f)) is answer

-- a change with no reason to refuse it fails only if an allocation fails
pub done_unless : {A : Type 0} (refusal : Option TreeFault) (result : Result A TreeFault) → refusal ≡ None
    → MatchOption refusal (IsOkUnless result Memory) (λ f. result ≡ Err f) → IsOkUnless result Memory
done_unless refusal result is answer = subst (λ o. MatchOption o (IsOkUnless result Memory) (λ f. result ≡ Err f)) is answer

abbrev seen : World → Sight
seen w = whole (unopened w)

pub add_is : (w : World) (directory : ℕ) (name : List ℕ) (can : Bool) → child_named w directory name ≡ None → can_add (seen w) directory ≡ can
    → add_refusal w directory name ≡ (if can then None else Some NoSpc)
add_is w directory name can free is = rw free (rw is refl)

pub link_is : (w : World) (directory : ℕ) (name : List ℕ) (number : ℕ) (may : Bool) → child_named w directory name ≡ None → link_count w.names number < w.limits.links
    → may_name w.limits (names_at (seen w) directory) w.next_cookie ≡ may → link_refusal w directory name number ≡ (if may then None else Some NoSpc)
link_is w directory name number may free few is = rw free (rw (lt-ltb (link_count w.names number) w.limits.links few) (rw is refl))

-- renaming one of two names of an object to the other changes nothing
pub renamed_same : (w : World) (from : ℕ) (old : List ℕ) (to : ℕ) (new : List ℕ) (at : At) → is_one (child_named w from old) (child_named w to new) ≡ true → renamed w from old to new at ≡ w
renamed_same w from old to new at same = rw same refl
