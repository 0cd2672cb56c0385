-- The XDR forms of an object's fields, and of a name (RFC 4506), with their values.
use Rattle.std.specs.Prelude.{List, [], ◌∷◌, map}
use Rattle.std.proofs.Common.{inl, inr}
use Rattle.acl_list.specs.declared.entry.Entry.{Entry}
use Rattle.acl_list.specs.declared.entry.EntryKind.{EntryKind}
use Rattle.acl_list.specs.declared.entry.EntryKind.TheVariants as entries
use Rattle.acl_list.specs.declared.entry.Kind.{Kind}
use Rattle.acl_list.specs.declared.entry.Kind.TheVariants as kinds
use Rattle.acl_list.specs.declared.entry.Who.{Who}
use Rattle.acl_list.specs.declared.entry.Who.TheVariants.{Owner, Group, Everyone, User, GroupOf}
use Rattle.xdr_wire.specs.Xdr.{Xdr, Value, void, uint, opaque, array, union, arm, no_more, fields}

-- ---- forms

-- a regular file, a directory or a symbolic link, by the numbers of nfs_ftype4 (RFC 8881, section 3.2)
abbrev pub object_kind : Xdr
object_kind = union (arm 1 void (arm 2 void (arm 5 void no_more)))

-- acetype4 (RFC 8881, section 6.2.1.1)
abbrev pub entry_kind : Xdr
entry_kind = union (arm 0 void (arm 1 void (arm 2 void (arm 3 void no_more))))

-- the principal: the owner, the group, everyone, a user or the members of a group
abbrev pub who : Xdr
who = union (arm 0 void (arm 1 void (arm 2 void (arm 3 uint (arm 4 uint no_more)))))

abbrev pub entry : Xdr
entry = fields (entry_kind ∷ uint ∷ uint ∷ who ∷ [])

abbrev pub list : Xdr
list = array 64 entry

abbrev pub name : Xdr
name = opaque 255

abbrev pub bytes : Xdr
bytes = opaque 1048576

-- type, bytes, owner, group, access control list, and the high bits of the mode
abbrev pub new_object : Xdr
new_object = fields (object_kind ∷ bytes ∷ uint ∷ uint ∷ list ∷ uint ∷ [])

-- ---- values

abbrev pub object_kind_value : Kind → Value object_kind
object_kind_value kinds.File = inl tt
object_kind_value kinds.Directory = inr (inl tt)
object_kind_value kinds.Link = inr (inr (inl tt))

abbrev pub entry_kind_value : EntryKind → Value entry_kind
entry_kind_value entries.Allow = inl tt
entry_kind_value entries.Deny = inr (inl tt)
entry_kind_value entries.Audit = inr (inr (inl tt))
entry_kind_value entries.Alarm = inr (inr (inr (inl tt)))

abbrev pub principal_value : Who → Value who
principal_value Owner = inl tt
principal_value Group = inr (inl tt)
principal_value Everyone = inr (inr (inl tt))
principal_value (User number) = inr (inr (inr (inl number)))
principal_value (GroupOf number) = inr (inr (inr (inr (inl number))))

abbrev pub entry_value : Entry → Value entry
entry_value e = (entry_kind_value e.kind, (e.flags, (e.mask, principal_value e.who)))

abbrev pub list_value : List Entry → Value list
list_value entries = map entry_value entries
