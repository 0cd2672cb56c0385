-- ln: the object gets the new name in the new name's directory.
use Rattle.std.specs.Prelude.{◌≡◌, ◌⊎◌, ℕ, Some, None, List}
use Rattle.nfs_ops.specs.Operations.{Operation, Known}
use Rattle.nfs_ops.specs.declared.OpKind.TheVariants as kinds
use Rattle.nfs_client.specs.Paths.{names_in}
use Rattle.nfs_client.specs.Commands.{IsIn, HasNoName}
use Rattle.nfs_client.specs.declared.fault.ToolFault.{ToolFault}
use Rattle.nfs_client.specs.declared.fault.ToolFault.TheVariants.{Path}

abbrev pub link : List ℕ → Operation
link name = Known kinds.Link name

-- the names of the old path and of the new path's directory, and the operation at the ends of both
abbrev pub LnAsks : List ℕ → List ℕ → List (List ℕ) → List (List ℕ) → Operation → Type 0
LnAsks old new names directory op =
    (name : List ℕ) × (names_in old ≡ Some names) × IsIn new directory name × (op ≡ link name)

abbrev pub WrongPaths : List ℕ → List ℕ → ToolFault → Type 0
WrongPaths old new Path = (names_in old ≡ None) ⊎ HasNoName new
WrongPaths old new fault = ⊥
