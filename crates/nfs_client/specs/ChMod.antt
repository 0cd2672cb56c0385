-- chmod: the mode is set.
use Rattle.std.specs.Prelude.{◌≡◌, ℕ, List, Some, None}
use Rattle.nfs_ops.specs.Operations.{Operation}
use Rattle.nfs_client.specs.Digits.{mode_in}
use Rattle.nfs_client.specs.Paths.{names_in}
use Rattle.nfs_client.specs.Setting.{set_attributes, of_mode}
use Rattle.nfs_client.specs.declared.fault.ToolFault.{ToolFault}
use Rattle.nfs_client.specs.declared.fault.ToolFault.TheVariants.{Path, Entry}

-- the path's names, and the operation at their end
abbrev pub ChModAsks : List ℕ → List ℕ → List (List ℕ) → Operation → Type 0
ChModAsks word path names op =
    (mode : ℕ) × (mode_in word ≡ Some mode) × (names_in path ≡ Some names) × (op ≡ set_attributes (of_mode mode))

-- The word is read before the path.
abbrev pub WrongMode : List ℕ → List ℕ → ToolFault → Type 0
WrongMode word path Entry = mode_in word ≡ None
WrongMode word path Path = (mode : ℕ) × (mode_in word ≡ Some mode) × (names_in path ≡ None)
WrongMode word path fault = ⊥
