-- The access control list (ACL) of an object and the high bits of its mode. They result from its creation (RFC 8881,
-- section 6.4.3) and from a change (section 6.4.1).
use Rattle.std.specs.Prelude.{ℕ, ◌==◌, if◌then◌else◌, List, [], length, Option, Some, None, bit_and}
use Rattle.acl_list.specs.declared.entry.Entry.{Entry}
use Rattle.acl_list.specs.declared.entry.Kind.{Kind}
use Rattle.acl_shape.specs.Mode.{set_mode}
use Rattle.acl_shape.specs.Inherited.{inherit, is_directory}

-- the bits 07000 of a mode, which no access control entry (ACE) represents (section 6.2.4)
abbrev pub high_bits : ℕ → ℕ
high_bits mode = bit_and mode 0xe00

-- the mode of an object that is created with no mode, no ACL and nothing inherited: for the owner alone, 0600, on a
-- directory 0700
abbrev pub default_mode : Kind → ℕ
default_mode kind = if is_directory kind then 0x1c0 else 0x180

-- the ACL if neither a mode nor an ACL is given
abbrev pub default_acl : Kind → List Entry → List Entry
default_acl kind inherited = if length inherited == 0 then set_mode [] kind (default_mode kind) else inherited

-- The ACL of a new object, by the mode and the ACL that are given. A given ACL is the object's ACL, even if a mode is
-- given too; a mode alone is set on the inherited ACL.
abbrev pub created_acl : List Entry → Kind → Option ℕ → Option (List Entry) → List Entry
created_acl parent kind mode (Some list) = list
created_acl parent kind (Some mode) None = set_mode (inherit parent kind) kind mode
created_acl parent kind None None = default_acl kind (inherit parent kind)

abbrev pub created_high : Option ℕ → ℕ
created_high (Some mode) = high_bits mode
created_high None = 0

-- The ACL of an object after a mode, an ACL or both are set. An operation that sets both sets the mode first and then
-- the ACL (section 6.4.1.3). Only the high bits of the mode survive that.
abbrev pub changed_acl : List Entry → Kind → Option ℕ → Option (List Entry) → List Entry
changed_acl old kind mode (Some list) = list
changed_acl old kind (Some mode) None = set_mode old kind mode
changed_acl old kind None None = old

abbrev pub changed_high : ℕ → Option ℕ → ℕ
changed_high high (Some mode) = high_bits mode
changed_high high None = high
