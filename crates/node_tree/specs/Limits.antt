-- The limits of a tree.
use Rattle.std.specs.Prelude.{ℕ}

-- the object number of the root
abbrev pub ROOT : ℕ
ROOT = 1

-- the most bytes of a symbolic link's text
abbrev pub MAX_TEXT : ℕ
MAX_TEXT = 1024

-- the most bytes of a name
abbrev pub MAX_NAME : ℕ
MAX_NAME = 255
