-- The promise of each arm that writes the value of an attribute.
use Rattle.std.specs.Prelude.{◌≤◌, OnOk, length, Result}
use Rattle.xdr_wire.specs.Buffer.{Buffer, Puts}
use Rattle.xdr_wire.specs.Xdr.{spelling}
use Rattle.nfs_types.specs.Attributes.{Typed}

-- A value is written whole, in at most 16,384 bytes, or not at all if it doesn't fit.
pub record Written {E : Type 0} (v : Typed) (old new : Buffer) (r : Result (Unit {0}) E) : Type 0 where
  pub puts : Puts old new (spelling v.form v.value) r
  pub short : OnOk r (length (spelling v.form v.value) ≤ 16384)

-- `Written`, opaque to the prover, which then carries it from an attribute to an equal one
unfoldable pub IsWritten : {E : Type 0} → Typed → Buffer → Buffer → Result (Unit {0}) E → Type 0
IsWritten v old new r = Written v old new r
