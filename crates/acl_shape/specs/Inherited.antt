-- The access control entries (ACEs) that a new object inherits from its directory's access control list (ACL) (RFC
-- 8881, sections 6.2.1.4.1 and 6.4.3.1).
use Rattle.std.specs.Prelude.{Bool, true, false, if◌then◌else◌, List, Option, Some, None, bit_and}
use Rattle.std.specs.Int.{bit_not, w32}
use Rattle.std.specs.List.{filter_map}
use Rattle.acl_list.specs.Mask.{has_bit}
use Rattle.acl_list.specs.Places.{file_inherit, directory_inherit, no_propagate}
use Rattle.acl_list.specs.declared.entry.Entry.{Entry}
use Rattle.acl_list.specs.declared.entry.Kind.{Kind}
use Rattle.acl_list.specs.declared.entry.Kind.TheVariants.{File, Directory, Link}
use Rattle.acl_list.specs.declared.flag.TheConstants as flag
use Rattle.acl_shape.specs.Mode.{set_aside}

abbrev pub is_directory : Kind → Bool
is_directory File = false
is_directory Directory = true
is_directory Link = false

-- the ACE for the object alone: FILE_INHERIT, DIRECTORY_INHERIT, NO_PROPAGATE and INHERIT_ONLY cleared, the other four
-- flags kept
abbrev pub settled : Entry → Entry
settled e = record e { flags = bit_and e.flags 0xf0 }

-- the ACE for the object itself, which the object passes on as its directory does
abbrev pub passed_on : Entry → Entry
passed_on e = record e { flags = bit_and e.flags (bit_not w32 flag.INHERIT_ONLY) }

-- The ACE that a new directory inherits. With DIRECTORY_INHERIT the ACE applies to the new directory, and is passed on
-- unless NO_PROPAGATE is set. With FILE_INHERIT alone the ACE doesn't apply to it and is only passed on. With
-- NO_PROPAGATE too, nothing is inherited.
abbrev pub directory_child : Entry → Option Entry
directory_child e =
    if has_bit e.flags directory_inherit
    then (if has_bit e.flags no_propagate then Some (settled e) else Some (passed_on e))
    else if has_bit e.flags file_inherit then (if has_bit e.flags no_propagate then None else Some (set_aside e))
    else None

-- the ACE that a new file or link inherits: one with FILE_INHERIT, for the object alone
abbrev pub file_child : Entry → Option Entry
file_child e = if has_bit e.flags file_inherit then Some (settled e) else None

-- the ACE that a new object of this type inherits
abbrev pub child : Kind → Entry → Option Entry
child kind e = if is_directory kind then directory_child e else file_child e

-- the inherited ACL: ACE by ACE, in order
abbrev pub inherit : List Entry → Kind → List Entry
inherit entries kind = filter_map (child kind) entries
