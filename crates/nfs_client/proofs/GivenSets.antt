-- Sets of attribute numbers.
use Rattle.std.proofs.Common.{◌≡◌, ℕ, false, ◌%◌, [], ap}
use Rattle.std.specs.Prelude.{◌==◌}
use Rattle.std.proofs.lemmas.Nat.Bits.{bit_at-zero}
use Rattle.nfs_types.specs.Sets.{has_number}

pub none_has : (n : ℕ) → has_number [] n ≡ false
unfolding has_number
none_has n = ap (λ (b : ℕ). b == 1) (bit_at-zero (n % 32))
