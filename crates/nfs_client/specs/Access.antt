-- access: the permissions of the caller, of six.
use Rattle.std.specs.Prelude.{◌≡◌, ℕ, List, Option, Some, None, option_and_then}
use Rattle.nfs_ops.specs.Operations.{Operation, Known}
use Rattle.nfs_ops.specs.Results.{Outcome, Done}
use Rattle.nfs_ops.specs.declared.OpKind.TheVariants as kinds
use Rattle.nfs_client.specs.Paths.{names_in}
use Rattle.nfs_client.specs.Taking.{last_of}
use Rattle.nfs_client.specs.declared.fault.ToolFault.{ToolFault}
use Rattle.nfs_client.specs.declared.fault.ToolFault.TheVariants.{Path}

-- READ 1, LOOKUP 2, MODIFY 4, EXTEND 8, DELETE 0x10, EXECUTE 0x20
abbrev pub access : Operation
access = Known kinds.Access 0x3f

-- the path's names, and the operation at their end
abbrev pub AccessAsks : List ℕ → List (List ℕ) → Operation → Type 0
AccessAsks path names op = (names_in path ≡ Some names) × (op ≡ access)

-- the text is no path
abbrev pub NoPath : List ℕ → ToolFault → Type 0
NoPath path Path = names_in path ≡ None
NoPath path fault = ⊥

-- the supported permissions, and the granted ones
abbrev pub rights_of : Outcome → Option (ℕ × ℕ)
rights_of (Done kinds.Access v) = Some (v.0, v.1)
rights_of _ = None

abbrev pub rights_in : List Outcome → Option (ℕ × ℕ)
rights_in results = option_and_then rights_of (last_of results)
