-- The access control list (ACL) that is set on a client's request, or a part of one (RFC 8881, sections 6.2.1 to 6.2.3
-- and 6.4.1.2).
use Rattle.std.specs.Prelude.{◌==◌, nat_lt, not, ◌||◌, is_none, if◌then◌else◌, List, length, Option, Some, None}
use Rattle.std.specs.Prelude.{slice_get}
use Rattle.std.specs.List.{filter_map, list_all}
use Rattle.acl_list.specs.Kinds.{kind_of}
use Rattle.acl_list.specs.Mask.{has_bit}
use Rattle.acl_list.specs.Places.{inherit_only}
use Rattle.acl_list.specs.declared.entry.Entry.{Entry}
use Rattle.acl_list.specs.declared.entry.EntryKind.{EntryKind}
use Rattle.acl_list.specs.declared.entry.Kind.{Kind}
use Rattle.acl_list.specs.declared.entry.Who.{Who}
use Rattle.acl_list.specs.declared.mask.TheConstants as mask
use Rattle.acl_list.specs.declared.flag.TheConstants as flag
use Rattle.acl_shape.specs.Mode.{without}
use Rattle.acl_shape.specs.Inherited.{is_directory, settled}
use Rattle.acl_shape.specs.Parts.{is_of}
use Rattle.acl_shape.specs.declared.part.Part.{Part}
use Rattle.acl_shape.specs.declared.request.Raw.{Raw}
use Rattle.acl_shape.specs.declared.request.AdmitFault.{AdmitFault}
use Rattle.acl_shape.specs.declared.request.AdmitFault.TheVariants.{NoSpc, AttrNotSupp, Inval, BadOwner}

-- the fault of an access control entry (ACE), if any: its type (section 6.2.1.1), its flags and its mask (6.2.1.4,
-- 6.2.1.3), its principal (6.2.1.5)
abbrev pub fault_of : Raw → Option AdmitFault
fault_of raw =
    if is_none (kind_of raw.kind) then Some AttrNotSupp
    else if nat_lt flag.DEFINED raw.flags || not (without raw.mask mask.DEFINED == 0) then Some Inval
    else if is_none raw.who then Some BadOwner
    else None

-- the fault of an ACL, if any: more ACEs than a new mode can keep, else the fault of the first ACE that has one
abbrev pub first_fault : List Raw → Option AdmitFault
first_fault raws = if nat_lt 59 (length raws) then Some NoSpc else slice_get (filter_map fault_of raws) 0

-- the ACE that is set on an object of this type: only a directory has inheritable ACEs
abbrev pub settled_on : Kind → Entry → Option Entry
settled_on kind e =
    if is_directory kind then Some e else if has_bit e.flags inherit_only then None else Some (settled e)

-- the ACE that was sent, if its type and its principal are known
abbrev pub entry_with : Raw → Kind → Option EntryKind → Option Who → Option Entry
entry_with raw kind None who = None
entry_with raw kind (Some entry_kind) None = None
entry_with raw kind (Some entry_kind) (Some who) = settled_on kind (record {
  kind = entry_kind;
  flags = raw.flags;
  mask = raw.mask;
  who = who;
})

abbrev pub entry_of : Kind → Raw → Option Entry
entry_of kind raw = entry_with raw kind (kind_of raw.kind) raw.who

-- the ACL that is set: ACE by ACE, in order
abbrev pub admitted : Kind → List Raw → List Entry
admitted kind raws = filter_map (entry_of kind) raws

-- ---- a part

-- the first of two faults
abbrev pub first_of : Option AdmitFault → Option AdmitFault → Option AdmitFault
first_of None later = later
first_of (Some fault) later = Some fault

-- the fault of a part, if any: its fault as an ACL, else an ACE that is set and is of the other part
abbrev pub part_fault : Part → Kind → List Raw → Option AdmitFault
part_fault part kind raws =
    first_of (first_fault raws) (if list_all (is_of part) (admitted kind raws) then None else Some Inval)
