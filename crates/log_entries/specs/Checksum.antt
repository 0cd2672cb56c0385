-- The checksum of results: SipHash-1-3 under the key 0.
use Rattle.std.specs.Prelude.{ℕ, List}
use Rattle.std.specs.Hash.DefaultHasher as sip

unfoldable pub results_checksum : List ℕ → ℕ
results_checksum bytes = sip.finish (sip.write sip.initial bytes)
