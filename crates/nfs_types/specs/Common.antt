-- Words of sets of attribute numbers: the numbers that two sets share, and a set without some numbers.
use Rattle.std.specs.Prelude.{ℕ, ◌/◌, ◌%◌, ◌^◌, List, [], ◌∷◌, bit_and, set, slice_index}
use Rattle.std.specs.Int.{w32, bit_not}

-- the words of the numbers that two sets share
abbrev pub common : List ℕ → List ℕ → List ℕ
common [] ws = []
common (v ∷ vs) [] = []
common (v ∷ vs) (w ∷ ws) = bit_and v w ∷ common vs ws

-- the words of a set with bit n mod 32 of word n div 32 cleared
abbrev pub cleared : List ℕ → ℕ → List ℕ
cleared words n = set words (n / 32) (bit_and (slice_index words (n / 32)) (bit_not w32 (2 ^ (n % 32))))

-- the words of a set without these numbers
abbrev pub without : List ℕ → List ℕ → List ℕ
without words [] = words
without words (n ∷ ns) = without (cleared words n) ns
