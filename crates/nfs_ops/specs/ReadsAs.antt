-- The promises of the arms that read an operation or a result by its kind.
use Rattle.std.specs.Prelude.{◌≡◌, ℕ, List, Option, Some, None, Result}
use Rattle.xdr_wire.specs.Reading.{Gives}
use Rattle.xdr_wire.specs.declared.fault.XdrFault.{XdrFault}
use Rattle.nfs_ops.specs.Items.{Item, number}
use Rattle.nfs_ops.specs.Rows.{row}
use Rattle.nfs_ops.specs.Operations.{Operation, Known, kind_in, arguments_of}
use Rattle.nfs_ops.specs.Results.{Outcome, Done}
use Rattle.nfs_ops.specs.ResultReading.{spelled_of}
use Rattle.nfs_ops.specs.Views.{op_view, read_view}
use Rattle.nfs_ops.specs.declared.Op.{Op}
use Rattle.nfs_ops.specs.declared.OpKind.{OpKind}
use Rattle.nfs_ops.specs.declared.OpResult.{OpResult}

-- the arguments of an operation, without its number; an entry that can't be run has a number in their place
abbrev pub arguments_in : Operation → Item
arguments_in (Known k v) = record { form = (row k).takes.form; normal = (row k).takes.normal; value = v }
arguments_in _ = number 0

-- the operation of this kind with these arguments
pub record IsOperation (k : OpKind) (arguments : Item) (o : Operation) : Type 0 where
  pub kind : kind_in o ≡ Some k
  pub holds : arguments_in o ≡ arguments

-- the kind of a result that is OK
abbrev pub done_kind : Outcome → Option OpKind
done_kind (Done k v) = Some k
done_kind _ = None

-- a result without its number and its status; a refusal has a number in its place
abbrev pub result_in : Outcome → Item
result_in (Done k v) = record { form = (row k).gives.form; normal = (row k).gives.normal; value = v }
result_in _ = number 0

-- the result of an operation of this kind that is OK
pub record IsDone (k : OpKind) (result : Item) (o : Outcome) : Type 0 where
  pub kind : done_kind o ≡ Some k
  pub holds : result_in o ≡ result

-- the arguments of an operation of this kind are read
unfoldable pub IsRead : OpKind → List ℕ → List ℕ → Result Op XdrFault → Type 0
IsRead k old new r = Gives op_view old new r (arguments_of k old)

-- a result is decoded by the form of this operation's result
unfoldable pub IsSpelled : OpKind → List ℕ → List ℕ → Result OpResult XdrFault → Type 0
IsSpelled k old new r = Gives read_view old new r (spelled_of k old)
