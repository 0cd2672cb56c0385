-- An access control list (ACL) by its two parts (RFC 8881, sections 6.2.2 and 6.2.3): the dacl allows and denies, the
-- sacl watches.
use Rattle.std.specs.Prelude.{Bool, true, not, List, ◌++◌, filter, Option, Some, None, option_map, unwrap_or}
use denote.Bor.{Bor}
use Rattle.acl_list.specs.Deciding.{allows_or_denies}
use Rattle.acl_list.specs.declared.entry.Entry.{Entry}
use Rattle.acl_shape.specs.Bounds.{fits}
use Rattle.acl_shape.specs.declared.part.Part.{Part}
use Rattle.acl_shape.specs.declared.part.Part.TheVariants.{Dacl, Sacl}

-- an ALLOW or DENY access control entry (ACE) is of the dacl, an AUDIT or ALARM ACE of the sacl
abbrev pub is_of : Part → Entry → Bool
is_of Dacl e = allows_or_denies e.kind
is_of Sacl e = not (allows_or_denies e.kind)

-- the ACEs of an ACL that are of the part, in order
abbrev pub part_of : Part → List Entry → List Entry
part_of part entries = filter (is_of part) entries

-- The ALLOW and DENY ACEs of the dacl, and after them the AUDIT and ALARM ACEs of the sacl. A part that isn't given is
-- taken from the ACL's own ACEs.
abbrev pub combined : List Entry → Option (List Entry) → Option (List Entry) → List Entry
combined entries dacl sacl = part_of Dacl (unwrap_or dacl entries) ++ part_of Sacl (unwrap_or sacl entries)

-- an ACL with the given parts put into it; if no part is given, the ACL is unchanged
abbrev pub with_parts : List Entry → Option (List Entry) → Option (List Entry) → List Entry
with_parts entries None None = entries
with_parts entries (Some dacl) sacl = combined entries (Some dacl) sacl
with_parts entries None (Some sacl) = combined entries None (Some sacl)

-- whether the ACL with the parts put into it is within the bounds; with no part given, any ACL passes
abbrev pub parts_fit : List Entry → Option (List Entry) → Option (List Entry) → Bool
parts_fit entries None None = true
parts_fit entries (Some dacl) sacl = fits (combined entries (Some dacl) sacl)
parts_fit entries None (Some sacl) = fits (combined entries None (Some sacl))

-- a part that is borrowed
abbrev pub lent : Option (Bor (List Entry)) → Option (List Entry)
lent part = option_map (λ l. l.now) part
