-- chown and chgrp: the owner or the owning group is set.
use Rattle.std.specs.Prelude.{◌≡◌, ℕ, List, Some}
use Rattle.nfs_types.specs.Seen.{Seen}
use Rattle.nfs_ops.specs.Operations.{Operation}
use Rattle.nfs_client.specs.Paths.{names_in}
use Rattle.nfs_client.specs.Setting.{set_attributes, of_nothing}

-- the owner alone
abbrev pub of_owner : List ℕ → Seen
of_owner owner = record of_nothing { owner = Some owner }

-- the owning group alone
abbrev pub of_group : List ℕ → Seen
of_group group = record of_nothing { group = Some group }

-- the path's names, and the operation at their end, which sets these attributes
abbrev pub SetAsks : Seen → List ℕ → List (List ℕ) → Operation → Type 0
SetAsks seen path names op = (names_in path ≡ Some names) × (op ≡ set_attributes seen)

abbrev pub ChOwnAsks : List ℕ → List ℕ → List (List ℕ) → Operation → Type 0
ChOwnAsks owner path names op = SetAsks (of_owner owner) path names op

abbrev pub ChGrpAsks : List ℕ → List ℕ → List (List ℕ) → Operation → Type 0
ChGrpAsks group path names op = SetAsks (of_group group) path names op
