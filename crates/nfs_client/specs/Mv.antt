-- mv: the old name in its directory becomes the new name in the other directory.
use Rattle.std.specs.Prelude.{◌≡◌, ◌⊎◌, ℕ, List}
use Rattle.nfs_ops.specs.Operations.{Operation, Known}
use Rattle.nfs_ops.specs.declared.OpKind.TheVariants as kinds
use Rattle.nfs_client.specs.Commands.{IsIn, HasNoName}
use Rattle.nfs_client.specs.declared.fault.ToolFault.{ToolFault}
use Rattle.nfs_client.specs.declared.fault.ToolFault.TheVariants.{Path}

abbrev pub rename : List ℕ → List ℕ → Operation
rename old new = Known kinds.Rename (old, new)

-- the names of the old path's directory and of the new path's, and the operation at the ends of both
abbrev pub MvAsks : List ℕ → List ℕ → List (List ℕ) → List (List ℕ) → Operation → Type 0
MvAsks old new source target op =
    (before : List ℕ) × (after : List ℕ) × IsIn old source before × IsIn new target after × (op ≡ rename before after)

abbrev pub WrongNames : List ℕ → List ℕ → ToolFault → Type 0
WrongNames old new Path = HasNoName old ⊎ HasNoName new
WrongNames old new fault = ⊥
