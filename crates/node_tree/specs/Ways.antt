-- The way from a directory up to the root, by the parents of directories alone.
use Rattle.std.specs.Prelude.{ℕ, zero, suc, Bool, true, false, ◌==◌, ◌||◌, Option, List}
use Rattle.std.specs.Option.{option_map_or}
use Rattle.node_tree.specs.World.{World, Name, parent_of}
use Rattle.node_tree.specs.Sound.{IsIn}

-- Whether a directory is met on the way up from another, both ends included. A way of more than `steps` steps counts as
-- endless.
unfoldable pub is_met : (ℕ → Option ℕ) → ℕ → ℕ → ℕ → Bool
is_met parents zero directory from = true
is_met parents (suc steps) directory from =
    (from == directory) || option_map_or (λ parent. is_met parents steps directory parent) (parents from) false

-- Whether an object is the directory or is below it. No way is longer: fewer directories exist than numbers were given
-- out.
abbrev pub is_within : World → ℕ → ℕ → Bool
is_within w directory number = is_met (parent_of w) w.next_number directory number

-- An object is within itself. The child of a name in an object within a directory is within it too.
pub data LiesWithin (names : List Name) (directory : ℕ) : ℕ → Type 0 where
  itself : LiesWithin names directory directory
  below : (n : Name) → IsIn n names → LiesWithin names directory n.directory → LiesWithin names directory n.child
