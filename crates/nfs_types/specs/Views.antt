-- The value of each type, as it is encoded.
use Rattle.xdr_wire.specs.Xdr.{Value}
use Rattle.nfs_types.specs.Forms.{handle, stateid, bitmap, attributes, trimmed}
use Rattle.nfs_types.specs.Handles.{object_handle}
use Rattle.nfs_types.specs.declared.handle.Handle.{Handle}
use Rattle.nfs_types.specs.declared.handle.Handle.TheVariants.{Sent, Object}
use Rattle.nfs_types.specs.declared.stateid.StateId.{StateId}
pub use Rattle.nfs_types.specs.MomentView.{moment_value}
use Rattle.nfs_types.specs.declared.bitmap.Bitmap.{Bitmap}
use Rattle.nfs_types.specs.declared.attributes.Attributes.{Attributes}

abbrev pub handle_value : Handle → Value handle
handle_value (Sent item) = item.bytes.now
handle_value (Object number) = object_handle number

abbrev pub stateid_value : StateId → Value stateid
stateid_value s = (s.seqid, s.other)

abbrev pub bitmap_value : Bitmap → Value bitmap
bitmap_value b = trimmed b.words

abbrev pub attributes_value : Attributes → Value attributes
attributes_value a = (bitmap_value a.set, a.values.bytes.now)
