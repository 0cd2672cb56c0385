-- rm: the name is removed from its directory.
use Rattle.std.specs.Prelude.{◌≡◌, ℕ, List}
use Rattle.nfs_ops.specs.Operations.{Operation, Known}
use Rattle.nfs_ops.specs.declared.OpKind.TheVariants as kinds
use Rattle.nfs_client.specs.Commands.{IsIn, HasNoName}
use Rattle.nfs_client.specs.declared.fault.ToolFault.{ToolFault}
use Rattle.nfs_client.specs.declared.fault.ToolFault.TheVariants.{Path}

abbrev pub remove : List ℕ → Operation
remove name = Known kinds.Remove name

-- the names of the path's directory, and the operation at their end
abbrev pub RmAsks : List ℕ → List (List ℕ) → Operation → Type 0
RmAsks path directory op = (name : List ℕ) × IsIn path directory name × (op ≡ remove name)

abbrev pub WrongPath : List ℕ → ToolFault → Type 0
WrongPath path Path = HasNoName path
WrongPath path fault = ⊥
