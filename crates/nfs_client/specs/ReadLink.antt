-- readlink: the text of a symbolic link (RFC 8881, section 18.24).
use Rattle.std.specs.Prelude.{◌≡◌, ℕ, List, Option, Some, None, option_and_then}
use Rattle.nfs_ops.specs.Operations.{Operation, Known}
use Rattle.nfs_ops.specs.Results.{Outcome, Done}
use Rattle.nfs_ops.specs.declared.OpKind.TheVariants as kinds
use Rattle.nfs_client.specs.Paths.{names_in}
use Rattle.nfs_client.specs.Taking.{last_of}

-- the path's names, and the operation at their end
abbrev pub ReadLinkAsks : List ℕ → List (List ℕ) → Operation → Type 0
ReadLinkAsks path names op = (names_in path ≡ Some names) × (op ≡ Known kinds.ReadLink tt)

abbrev pub text_of : Outcome → Option (List ℕ)
text_of (Done kinds.ReadLink v) = Some v
text_of _ = None

abbrev pub text_in : List Outcome → Option (List ℕ)
text_in results = option_and_then text_of (last_of results)
