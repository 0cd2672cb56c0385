-- The promises of the arms that write an operation or a result, each about one item.
use Rattle.std.specs.Prelude.{ℕ, ◌≤◌, OnOk, IsTrue, is_ok, Result}
use Rattle.xdr_wire.specs.Buffer.{Buffer, Puts}
use Rattle.nfs_ops.specs.Items.{Item, ItemHasSpelling, ItemIsNormal, item_spelling}

-- An item is written whole, or not at all if it doesn't fit.
pub record Written {E : Type 0} (i : Item) (old new : Buffer) (r : Result (Unit {0}) E) : Type 0 where
  pub has_spelling : OnOk r (ItemHasSpelling i)
  pub in_normal_form : OnOk r (ItemIsNormal i)
  pub puts : Puts old new (item_spelling i) r

-- `Written`, opaque to the prover, which then carries it from an operation to an equal one
unfoldable pub IsWritten : {E : Type 0} → Item → Buffer → Buffer → Result (Unit {0}) E → Type 0
IsWritten i old new r = Written i old new r

-- An item is written whole if `most` bytes fit.
pub record WrittenWithin {E : Type 0} (i : Item) (most : ℕ) (old new : Buffer) (r : Result (Unit {0}) E) : Type 0 where
  pub has_spelling : OnOk r (ItemHasSpelling i)
  pub in_normal_form : OnOk r (ItemIsNormal i)
  pub fits : most ≤ old.room → IsTrue (is_ok r)
  pub puts : Puts old new (item_spelling i) r

-- `WrittenWithin`, opaque to the prover
unfoldable pub IsWrittenWithin : {E : Type 0} → Item → ℕ → Buffer → Buffer → Result (Unit {0}) E → Type 0
IsWrittenWithin i most old new r = WrittenWithin i most old new r
