-- The mode of an access control list (ACL) (RFC 8881, section 6.3.2), and the ACL of a mode (section 6.4.1.1).
use Rattle.std.specs.Prelude.{ℕ, ◌+◌, ◌-◌, ◌*◌, ◌/◌, ◌%◌, Bool, ◌==◌, not, ◌&&◌, ◌||◌, if◌then◌else◌, List, [], ◌∷◌}
use Rattle.std.specs.Prelude.{◌++◌, Option, Some, None, bit_and, bit_or}
use Rattle.std.specs.Int.{bit_not, w32}
use Rattle.std.specs.List.{filter_map}
use Rattle.rpc_record.specs.Identity.{Identity, is_member}
use Rattle.acl_list.specs.Mask.{has_bit}
use Rattle.acl_list.specs.Places.{read_data, write_data, append_data, execute, file_inherit, directory_inherit}
use Rattle.acl_list.specs.Places.{inherit_only}
use Rattle.acl_list.specs.Principals.{is_special}
use Rattle.acl_list.specs.Deciding.{allows, allows_or_denies, is_allow, is_class}
use Rattle.acl_list.specs.declared.entry.Entry.{Entry}
use Rattle.acl_list.specs.declared.entry.EntryKind.{EntryKind}
use Rattle.acl_list.specs.declared.entry.EntryKind.TheVariants.{Allow, Deny}
use Rattle.acl_list.specs.declared.entry.Kind.{Kind}
use Rattle.acl_list.specs.declared.entry.Kind.TheVariants.{File, Directory, Link}
use Rattle.acl_list.specs.declared.entry.Who.{Who}
use Rattle.acl_list.specs.declared.entry.Who.TheVariants.{Owner, Group, Everyone}
use Rattle.acl_list.specs.declared.mask.TheConstants as mask
use Rattle.acl_list.specs.declared.flag.TheConstants as flag

-- ---- the mode of an ACL (section 6.3.2)

-- The three bits of a mode for a class. 4 (read): READ_DATA is allowed. 2 (write): WRITE_DATA and APPEND_DATA both are.
-- 1 (execute): EXECUTE is.
abbrev pub digit_of : (ℕ → Bool) → ℕ
digit_of allowed =
    4 * (if allowed read_data then 1 else 0) + 2 * (if allowed write_data && allowed append_data then 1 else 0)
    + (if allowed execute then 1 else 0)

-- The mode of an ACL: the bits of OWNER@, GROUP@ and EVERYONE@, each by its own access control entries (ACEs) and those
-- of EVERYONE@ alone. A bit is allowed if the first of these ACEs that has it is an ALLOW.
abbrev pub mode_of : List Entry → ℕ
mode_of entries =
    64 * digit_of (allows (is_class Owner) entries) + 8 * digit_of (allows (is_class Group) entries)
    + digit_of (allows (is_class Everyone) entries)

-- ---- the mask bits that the bits of a mode represent (section 6.3.2, read from the mode to the ACL)

-- the mask bits for writing: on a directory also DELETE_CHILD
abbrev pub write_mask : Kind → ℕ
write_mask File = mask.WRITE_DATA + mask.APPEND_DATA
write_mask Directory = mask.WRITE_DATA + mask.APPEND_DATA + mask.DELETE_CHILD
write_mask Link = mask.WRITE_DATA + mask.APPEND_DATA

-- the class bits of three bits of a mode: bit 2 reads, bit 1 writes, bit 0 executes
unfoldable pub class_mask : Kind → ℕ → ℕ
class_mask kind digit =
    (if has_bit digit 2 then mask.READ_DATA else 0) + (if has_bit digit 1 then write_mask kind else 0)
    + (if has_bit digit 0 then mask.EXECUTE else 0)

-- the three bits of the owner, of the group and of the others
abbrev pub owner_digit : ℕ → ℕ
owner_digit mode = mode / 64 % 8

abbrev pub group_digit : ℕ → ℕ
group_digit mode = mode / 8 % 8

abbrev pub others_digit : ℕ → ℕ
others_digit mode = mode % 8

-- the three bits of the caller's class: the owner's, else the group's for a member, else those of the others
abbrev pub class_digit : ℕ → ℕ → Identity → ℕ → ℕ
class_digit owner group caller mode =
    if caller.uid == owner then owner_digit mode else if is_member caller group then group_digit mode
    else others_digit mode

-- ---- the ACEs that a new mode keeps (section 6.4.1.1)

-- the bits of the first mask that the second lacks
abbrev pub without : ℕ → ℕ → ℕ
without mask other = bit_and mask (bit_not w32 other)

-- the ACE with INHERIT_ONLY set
abbrev pub set_aside : Entry → Entry
set_aside e = record e { flags = bit_or e.flags flag.INHERIT_ONLY }

-- The part of an ACE that a new mode keeps; `lacking` are the mask bits that the group's three bits lack. AUDIT, ALARM
-- and INHERIT_ONLY ACEs neither allow nor deny anything on the object, and stay. Other ALLOW and DENY ACEs of OWNER@,
-- GROUP@ and EVERYONE@ are dropped; the inheritable ones stay as INHERIT_ONLY. The DENY ACEs of a named user or group
-- stay. Its ALLOW ACEs lose the bits that the group's three bits don't allow.
abbrev pub kept : ℕ → Entry → Option Entry
kept lacking e =
    if not (allows_or_denies e.kind) || has_bit e.flags inherit_only then Some e
    else if is_special e.who
    then (if has_bit e.flags file_inherit || has_bit e.flags directory_inherit then Some (set_aside e) else None)
    else if is_allow e.kind then Some (record e { mask = without e.mask lacking })
    else Some e

-- an ALLOW or DENY ACE of a named user or group, for the object itself
abbrev pub is_named : Entry → Bool
is_named e = allows_or_denies e.kind && not (has_bit e.flags inherit_only) && not (is_special e.who)

-- ---- the ACL for a mode (section 6.4.1.1)

-- an ACE for the object itself that no new object inherits
abbrev pub plain : EntryKind → ℕ → Who → Entry
plain kind mask who = record { kind = kind; flags = 0; mask = mask; who = who }

-- the permissions that the owner is always allowed, whatever the mode
abbrev pub owner_always : ℕ
owner_always =
    mask.READ_ATTRIBUTES + mask.WRITE_ATTRIBUTES + mask.READ_ACL + mask.WRITE_ACL + mask.WRITE_OWNER + mask.SYNCHRONIZE

-- the permissions that everyone is always allowed, whatever the mode
abbrev pub everyone_always : ℕ
everyone_always = mask.READ_ATTRIBUTES + mask.READ_ACL + mask.SYNCHRONIZE

-- The owner's two ACEs, the kept ACEs in their order, the group's two, and everyone's. An ALLOW of the class bits and a
-- DENY of the other class bits decide each class bit for their class. The ACEs after them don't decide it.
abbrev pub set_mode : List Entry → Kind → ℕ → List Entry
set_mode entries kind mode =
    plain Allow (bit_or (class_mask kind (owner_digit mode)) owner_always) Owner
    ∷ plain Deny (class_mask kind (7 - owner_digit mode)) Owner
    ∷ filter_map (kept (class_mask kind (7 - group_digit mode))) entries
    ++ plain Allow (class_mask kind (group_digit mode)) Group
    ∷ plain Deny (class_mask kind (7 - group_digit mode)) Group
    ∷ plain Allow (bit_or (class_mask kind (others_digit mode)) everyone_always) Everyone
    ∷ []
