-- The access control list (ACL) that attributes set on an object: by the whole acl, the mode, and the dacl or sacl that
-- they set (RFC 8881, sections 6.2.2, 6.2.3, 6.4.1 and 6.4.3).
use Rattle.std.specs.Prelude.{◌≡◌, ◌≢◌, Bool, true, false, List, [], Option, Some, None, Result, Ok, Err}
use Rattle.acl_list.specs.declared.entry.Entry.{Entry}
use Rattle.acl_list.specs.declared.entry.Kind.{Kind}
use Rattle.acl_shape.specs.Parts.{with_parts, parts_fit}
use Rattle.acl_shape.specs.Permissions.{created_acl, changed_acl}
use Rattle.nfs_types.specs.Sent.{Wanted}
use Rattle.nfs_types.specs.declared.status.Status.{Status}
use Rattle.nfs_types.specs.declared.status.Status.TheVariants as statuses

-- ---- a new object, in a directory with this ACL

-- The ACL of a new object before its dacl and sacl are put in. It is empty if a dacl is sent: then nothing is
-- inherited, and a mode beside it sets its high bits alone. Else it is the acl that was sent, if any. A sacl therefore
-- goes into the ACL that is made without it.
abbrev pub base_of : Option (List Entry) → Option (List Entry) → Option (List Entry)
base_of list (Some dacl) = Some []
base_of list None = list

abbrev pub base_list : Wanted → Kind → List Entry → List Entry
base_list wanted kind parent = created_acl parent kind wanted.mode (base_of wanted.list wanted.dacl)

abbrev pub new_list : Wanted → Kind → List Entry → List Entry
new_list wanted kind parent = with_parts (base_list wanted kind parent) wanted.dacl wanted.sacl

-- whether the ACL with these parts is within its bounds
abbrev pub new_fits : Wanted → Kind → List Entry → Bool
new_fits wanted kind parent = parts_fit (base_list wanted kind parent) wanted.dacl wanted.sacl

-- ---- an object with this ACL, whose attributes are set

-- The parts are put into the object's own ACL. If a mode is set too, they are put into the ACL that the mode makes of
-- it.
abbrev pub set_list : Wanted → Kind → List Entry → List Entry
set_list wanted kind old = with_parts (changed_acl old kind wanted.mode wanted.list) wanted.dacl wanted.sacl

abbrev pub set_fits : Wanted → Kind → List Entry → Bool
set_fits wanted kind old = parts_fit (changed_acl old kind wanted.mode wanted.list) wanted.dacl wanted.sacl

-- ---- the answer of the code

-- The new ACL is within its bounds, or the answer is NOSPC. An answer of DELAY states nothing of it.
abbrev pub IsFit : {X : Type 0} → Bool → Result X Status → Type 0
IsFit fits (Ok x) = fits ≡ true
IsFit fits (Err status) = status ≢ statuses.Delay → (status ≡ statuses.NoSpc) × (fits ≡ false)
