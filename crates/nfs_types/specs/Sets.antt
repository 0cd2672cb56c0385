-- Sets of attribute numbers (RFC 8881, section 3.3.7).
use Rattle.std.specs.Prelude.{ℕ, Bool, ◌/◌, ◌%◌, List, slice_index, ◌==◌}
use Rattle.std.specs.Int.{bit_at}

-- The set of the words of a bitmap has n if bit n mod 32 of word n div 32 is set.
unfoldable pub has_number : List ℕ → ℕ → Bool
has_number words n = bit_at (slice_index words (n / 32)) (n % 32) == 1
