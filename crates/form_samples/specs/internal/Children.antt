-- The entries of names as they are judged.
use Rattle.std.specs.Prelude.{ℕ, List, Result, Ok, Err}
use Rattle.xdr_wire.specs.Xdr.{Value}
use Rattle.who_book.specs.Content.{Content}
use Rattle.nfs_types.specs.Attributes.{Facts}
use Rattle.nfs_types.specs.Given.{given_set, given_values}
use Rattle.nfs_types.specs.Views.{bitmap_value}
use Rattle.nfs_types.specs.declared.bitmap.Bitmap.{Bitmap}
use Rattle.nfs_ops.specs.Forms.{entry}
use Rattle.nfs_ops.specs.Listing.{Judged}

abbrev pub entry_of : Content → Facts → ℕ → List ℕ → Bitmap → Value entry
entry_of book facts cookie name asked =
    (cookie, (name, (given_set (bitmap_value asked), given_values book facts (bitmap_value asked))))

-- the entry of a name with this cookie and the attributes that are returned for its object, or the fault that refuses
-- it
abbrev pub judged_as : Content → Facts → ℕ → List ℕ → Result Bitmap ℕ → Judged ℕ
judged_as book facts cookie name (Ok asked) = Ok (entry_of book facts cookie name asked)
judged_as book facts cookie name (Err refusal) = Err refusal
