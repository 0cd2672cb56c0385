-- The attributes of an object as the code writes them.
use Rattle.std.specs.Prelude.{◌≡◌, ◌≤◌, ℕ, ◌+◌, true, false, nat_le, List, length, Result, Ok, Err}
use Rattle.xdr_wire.specs.Buffer.{Buffer, Appends}
use Rattle.nfs_types.specs.declared.given.GivenAttributes.{GivenAttributes}
use Rattle.nfs_types.specs.FactsView.{facts_value}
use Rattle.nfs_types.specs.Given.{given_set, given_values}
use Rattle.nfs_types.specs.Views.{bitmap_value}
use Rattle.nfs_ops.specs.declared.OpKind.TheVariants as kinds
use Rattle.nfs_ops.specs.Results.{Outcome, Done}
use Rattle.nfs_ops.specs.Sizes.{most}
use Rattle.compound_run.specs.Runs.{spelled}

-- the values of the returned attributes
abbrev pub values_given : GivenAttributes → List ℕ
values_given g = given_values g.book.now (facts_value g.facts.now) (bitmap_value g.asked)

-- the result of a GETATTR that returns them
abbrev pub given_outcome : GivenAttributes → Outcome
given_outcome g = Done kinds.GetAttr (given_set (bitmap_value g.asked), values_given g)

-- A result is written if it has at most `room` bytes, else nothing is written.
abbrev pub PutsWithin : {E : Type 0} → ℕ → Outcome → Buffer → Result (Unit {0}) E → Buffer → Type 0
PutsWithin room o before (Ok done) after =
    Appends before after (spelled o) × (nat_le (most o) room ≡ true) × (length after.bytes ≤ length before.bytes + room)
PutsWithin room o before (Err full) after = (nat_le (most o) room ≡ false) × (after ≡ before)
