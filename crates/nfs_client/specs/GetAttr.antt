-- The attributes of an object, as the server returns them (RFC 8881, section 18.7).
use Rattle.std.specs.Prelude.{◌≡◌, ℕ, List, Option, Some, None, option_and_then}
use Rattle.nfs_ops.specs.Operations.{Operation, Known}
use Rattle.nfs_ops.specs.Results.{Outcome, Done}
use Rattle.nfs_ops.specs.declared.OpKind.TheVariants as kinds
use Rattle.nfs_client.specs.Paths.{names_in}
use Rattle.nfs_client.specs.Taking.{last_of}

-- the path's names, and the operation at their end, which requests a set of attributes
abbrev pub GetAttrAsks : List ℕ → List ℕ → List (List ℕ) → Operation → Type 0
GetAttrAsks path set names op = (names_in path ≡ Some names) × (op ≡ Known kinds.GetAttr set)

-- the returned attributes, and their values, one after the other
abbrev pub attributes_of : Outcome → Option (List ℕ × List ℕ)
attributes_of (Done kinds.GetAttr v) = Some (v.0, v.1)
attributes_of _ = None

abbrev pub attributes_in : List Outcome → Option (List ℕ × List ℕ)
attributes_in results = option_and_then attributes_of (last_of results)
