-- The bounds on the number of access control entries (ACEs) in the access control list of an object.
use Rattle.std.specs.Prelude.{◌≤◌, nat_le, length, count_by, Bool, not, ◌||◌, ◌&&◌, List}
use Rattle.acl_list.specs.Mask.{has_bit}
use Rattle.acl_list.specs.Places.{file_inherit, directory_inherit, inherit_only}
use Rattle.acl_list.specs.Principals.{is_special}
use Rattle.acl_list.specs.Deciding.{allows_or_denies}
use Rattle.acl_list.specs.declared.entry.Entry.{Entry}

-- Whether a new mode keeps the ACE, perhaps changed. It keeps all but the ALLOW and DENY ACEs of OWNER@, GROUP@ and
-- EVERYONE@ that are for the object alone.
abbrev pub keeps : Entry → Bool
keeps e =
    not (allows_or_denies e.kind) || has_bit e.flags inherit_only || not (is_special e.who)
    || has_bit e.flags file_inherit || has_bit e.flags directory_inherit

-- at most 64 ACEs; a new mode keeps at most 59 of them, and has room for the five that it adds
pub record IsBounded (entries : List Entry) : Type 0 where
  pub all : length entries ≤ 64
  pub kept : count_by keeps entries ≤ 59

-- the test of the bounds
abbrev pub fits : List Entry → Bool
fits entries = nat_le (length entries) 64 && nat_le (count_by keeps entries) 59
