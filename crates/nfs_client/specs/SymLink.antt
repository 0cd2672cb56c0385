-- ln -s: a symbolic link is created in its parent directory, without attributes.
use Rattle.std.specs.Prelude.{◌≡◌, ℕ, List, []}
use Rattle.std.proofs.Common.{inl, inr}
use Rattle.nfs_ops.specs.Operations.{Operation, Known}
use Rattle.nfs_ops.specs.declared.OpKind.TheVariants as kinds
use Rattle.nfs_client.specs.Commands.{IsIn}

-- of the type NF4LNK with this text, with no attribute
abbrev pub create_link : List ℕ → List ℕ → Operation
create_link text name = Known kinds.Create (inr (inr (inr (inr (inl text)))), (name, ([], [])))

-- the names of the parent directory's path, and the operation at their end
abbrev pub SymLinkAsks : List ℕ → List ℕ → List (List ℕ) → Operation → Type 0
SymLinkAsks text path directory op = (name : List ℕ) × IsIn path directory name × (op ≡ create_link text name)
