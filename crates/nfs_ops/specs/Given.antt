-- The results that are written straight from the place of their bytes (RFC 8881, sections 18.7, 18.22 and 18.23).
use Rattle.std.specs.Prelude.{◌≡◌, ◌≤◌, ◌<◌, ℕ, Bool, List, Result, Ok, Err, length}
use Rattle.xdr_wire.specs.Xdr.{Value}
use Rattle.xdr_wire.specs.Buffer.{Buffer, Appends}
use Rattle.nfs_types.specs.Forms.{attributes}
use Rattle.nfs_ops.specs.Items.{Item, item_spelling}
use Rattle.nfs_ops.specs.Views.{zeros_value}
use Rattle.nfs_ops.specs.Listing.{Listing}
use Rattle.nfs_ops.specs.Results.{Outcome, Done}
use Rattle.nfs_ops.specs.declared.OpKind.TheVariants.{GetAttr, Read, ReadDir}

-- these bytes of a file, and whether it ends after them
abbrev pub read_outcome : Bool → List ℕ → Outcome
read_outcome eof item = Done Read (eof, item)

-- these attributes of an object
abbrev pub getattr_outcome : Value attributes → Outcome
getattr_outcome given = Done GetAttr given

-- these entries of a directory, and whether it ends after them
abbrev pub readdir_outcome : Listing → Outcome
readdir_outcome given = Done ReadDir (zeros_value, (given.entries, given.eof))

-- The item is appended to the buffer's bytes. This fails if and only if the item has more bytes than the room; then
-- nothing changes.
abbrev pub PutsWithin : {E : Type 0} → ℕ → Buffer → Buffer → Item → Result (Unit {0}) E → Type 0
PutsWithin room old new item (Ok done) = Appends old new (item_spelling item) × (length (item_spelling item) ≤ room)
PutsWithin room old new item (Err full) = (room < length (item_spelling item)) × (new ≡ old)
