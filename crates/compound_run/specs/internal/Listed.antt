-- The entries of a directory, as the code writes them.
use Rattle.std.specs.Prelude.{◌≡◌, ℕ, ◌&&◌, Bool, not, is_some, if◌then◌else◌, List, [], ◌∷◌, Option, Some, None}
use Rattle.std.specs.Prelude.{Result, Ok, Err, OnOk}
use Rattle.xdr_wire.specs.Xdr.{Value}
use Rattle.xdr_wire.specs.Buffer.{Buffer, Puts}
use Rattle.xdr_wire.specs.declared.writer.Full.{Full}
use Rattle.who_book.specs.Content.{Content}
use Rattle.nfs_types.specs.Attributes.{Facts}
use Rattle.nfs_types.specs.Given.{given_set, given_values}
use Rattle.nfs_types.specs.Views.{bitmap_value}
use Rattle.nfs_ops.specs.Forms.{entry}
use Rattle.nfs_ops.specs.Listing.{linked_bytes, IsSendable}
use Rattle.nfs_types.specs.declared.bitmap.Bitmap.{Bitmap}
use Rattle.nfs_types.specs.declared.status.Status.{Status}
use Rattle.node_tree.specs.World.{World, Name, name_after}
use Rattle.access_rows.specs.Rows.{Demands}
use Rattle.access_rows.specs.declared.demand.Demand.{Demand}
use Rattle.access_rows.specs.declared.facts.Object.{Object}
use Rattle.compound_run.specs.Sight.{Sight}
use Rattle.compound_run.specs.Rows.{object_of}
use Rattle.compound_run.specs.Operations.Readdir.{names_above}

-- the first of two demands that is refused, given whether READ_ATTRIBUTES and READ_ACL are granted
abbrev pub refused_of : Bool → Bool → Demands → Option Demand
refused_of attributes list [] = None
refused_of attributes list (first ∷ []) = None
refused_of attributes list (first ∷ second ∷ others) =
    if not attributes && is_some first then first else if list then None else second

-- the attributes of an entry's object, as the code holds them
abbrev pub given_view : Result (Status × Bitmap) Demand → Result (Status × List ℕ) Demand
given_view (Ok (error, set)) = Ok (error, bitmap_value set)
given_view (Err d) = Err d

-- the next entry of a directory above a cookie, if any: its own cookie, and its object
pub record IsNext (s : Sight) (directory cookie : ℕ) (found : Option Name) (next : ℕ) (child : Object) : Type 0 where
  pub name : Name
  pub is : found ≡ Some name
  pub by : next ≡ name.cookie
  pub object : object_of s (Some name.child) ≡ Some child
  pub above : names_above s directory cookie ≡ name ∷ names_above s directory next

-- the next entry of a directory above a cookie, if any: its own cookie, and the number of its object
pub record IsNextOf (s : Sight) (directory cookie : ℕ) (found : Option Name) (next number : ℕ) : Type 0 where
  pub name : Name
  pub is : found ≡ Some name
  pub by : next ≡ name.cookie
  pub numbered : number ≡ name.child
  pub child : Object
  pub there : object_of s (Some number) ≡ Some child

-- the cookie is that of a name in a directory
pub record IsEntry (w : World) (cookie : ℕ) : Type 0 where
  pub directory : ℕ
  pub last : ℕ
  pub name : Name
  pub listed : name_after w directory last ≡ Some name
  pub by : name.cookie ≡ cookie

-- the entry as written from the facts of its object
abbrev pub written_entry : Content → Facts → Name → List ℕ → Value entry
written_entry book facts n asked = (n.cookie, (n.name, (given_set asked, given_values book facts asked)))

-- an entry after its link
unfoldable pub linked : Value entry → List ℕ
linked e = linked_bytes e

-- The entry is written after its link, or both together don't fit and nothing is written.
pub record PutsEntry (e : Value entry) (old new : Buffer) (result : Result (Unit {0}) Full) : Type 0 where
  pub sendable : OnOk result (IsSendable e)
  pub puts : Puts old new (linked e) result
