-- A mask as a set of bits. The bit at a place is 2 ^ place.
use Rattle.std.specs.Prelude.{◌≡◌, ℕ, ◌^◌, ◌<◌, Bool, ◌==◌, List, filter, sum_by}
use Rattle.std.specs.Int.{bit_at}
use Rattle.std.specs.List.{range_with_len}

-- whether a mask has the bit at this place
unfoldable pub has_bit : ℕ → ℕ → Bool
has_bit mask place = bit_at mask place == 1

-- the bits of a mask of 32 bits are those that pass the test
abbrev pub BitsAre : ℕ → (ℕ → Bool) → Type 0
BitsAre mask test = (bit : ℕ) → bit < 32 → has_bit mask bit ≡ test bit

-- the places of a mask of 32 bits, lowest first
abbrev pub places : List ℕ
places = range_with_len 0 32

-- the mask of 32 bits that has the bits that pass the test
unfoldable pub mask_of : (ℕ → Bool) → ℕ
mask_of test = sum_by (λ place. 2 ^ place) (filter test places)
