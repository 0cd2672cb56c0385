-- mkdir: a directory is created in its parent directory, without attributes.
use Rattle.std.specs.Prelude.{◌≡◌, ℕ, List, []}
use Rattle.std.proofs.Common.{inl, inr}
use Rattle.nfs_ops.specs.Operations.{Operation, Known}
use Rattle.nfs_ops.specs.declared.OpKind.TheVariants as kinds
use Rattle.nfs_client.specs.Commands.{IsIn}

-- of the type NF4DIR, with no attribute
abbrev pub create : List ℕ → Operation
create name = Known kinds.Create (inr (inl tt), (name, ([], [])))

-- the names of the parent directory's path, and the operation at their end
abbrev pub MkDirAsks : List ℕ → List (List ℕ) → Operation → Type 0
MkDirAsks path directory op = (name : List ℕ) × IsIn path directory name × (op ≡ create name)
