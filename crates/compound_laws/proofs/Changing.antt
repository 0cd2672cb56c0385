-- Most operations leave the realm unchanged. A law on their effects has an arm for each of the others.
use Rattle.std.proofs.Common.{◌≡◌, ◌⊎◌}
use Rattle.xdr_wire.specs.Xdr.{Value}
use Rattle.nfs_ops.specs.Forms.{close_args, create_args, link_args, open_args, remove_args, rename_args, setattr_args}
use Rattle.nfs_ops.specs.Forms.{write_args, reclaim_complete_args}
use Rattle.nfs_ops.specs.Operations.{Operation, Known}
use Rattle.nfs_ops.specs.declared.OpKind.TheVariants as kinds
use Rattle.compound_run.specs.Realm.{Realm}
use Rattle.compound_run.specs.Context.{Context, Handles}
use Rattle.compound_run.specs.Operations.{meaning}

-- the operations that change the realm, with their arguments
pub data Changing : Type 0 where
  OfClose : Value close_args → Changing
  OfCreate : Value create_args → Changing
  OfLink : Value link_args → Changing
  OfOpen : Value open_args → Changing
  OfRemove : Value remove_args → Changing
  OfRename : Value rename_args → Changing
  OfSetAttr : Value setattr_args → Changing
  OfWrite : Value write_args → Changing
  OfReclaimComplete : Value reclaim_complete_args → Changing

abbrev pub operation_of : Changing → Operation
operation_of (OfClose v) = Known kinds.Close v
operation_of (OfCreate v) = Known kinds.Create v
operation_of (OfLink v) = Known kinds.Link v
operation_of (OfOpen v) = Known kinds.Open v
operation_of (OfRemove v) = Known kinds.Remove v
operation_of (OfRename v) = Known kinds.Rename v
operation_of (OfSetAttr v) = Known kinds.SetAttr v
operation_of (OfWrite v) = Known kinds.Write v
operation_of (OfReclaimComplete v) = Known kinds.ReclaimComplete v

-- an operation leaves every realm unchanged, or is one of those that change it
abbrev pub Parts : Context → Handles → Operation → Type 0
Parts c h op = ((r : Realm) → (meaning c h op).effect r ≡ r) ⊎ ((k : Changing) × (op ≡ operation_of k))
