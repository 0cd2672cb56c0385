-- The access control entry (ACE) that decides a bit of an access control list (RFC 8881, section 6.2.1).
use Rattle.std.specs.Prelude.{ℕ, Bool, true, false, not, ◌==◌, ◌&&◌, if◌then◌else◌, List, Option, Some, None, find}
use Rattle.std.specs.Prelude.{bit_and}
use Rattle.std.specs.List.{enumerate_from}
use Rattle.acl_list.specs.Mask.{has_bit}
use Rattle.acl_list.specs.Places.{inherit_only}
use Rattle.rpc_record.specs.Identity.{Identity, is_member}
use Rattle.acl_list.specs.declared.entry.Entry.{Entry}
use Rattle.acl_list.specs.declared.entry.EntryKind.{EntryKind}
use Rattle.acl_list.specs.declared.entry.EntryKind.TheVariants.{Allow, Deny, Audit, Alarm}
use Rattle.acl_list.specs.declared.entry.Who.{Who}
use Rattle.acl_list.specs.declared.entry.Who.TheVariants.{Owner, Group, Everyone, User, GroupOf}
use Rattle.acl_list.specs.declared.answer.FirstMatch.{FirstMatch}
use Rattle.acl_list.specs.declared.answer.FirstMatch.TheVariants.{Unmatched, AllowedBy, DeniedBy}

-- Whether a principal names the caller, for an object of this owner and group (section 6.2.1.5). EVERYONE@ names
-- everyone, including the owner and the group's members. The flags of the ACE don't count.
abbrev pub is_true_for : ℕ → ℕ → Identity → Who → Bool
is_true_for owner group caller Owner = caller.uid == owner
is_true_for owner group caller Group = is_member caller group
is_true_for owner group caller Everyone = true
is_true_for owner group caller (User uid) = caller.uid == uid
is_true_for owner group caller (GroupOf gid) = is_member caller gid

-- whether a principal is this special identifier, or EVERYONE@
abbrev pub is_class : Who → Who → Bool
is_class Owner Owner = true
is_class Group Group = true
is_class class Everyone = true
is_class class other = false

-- AUDIT and ALARM ACEs watch access; they neither grant nor deny it (section 6.2.1.1)
abbrev pub allows_or_denies : EntryKind → Bool
allows_or_denies Allow = true
allows_or_denies Deny = true
allows_or_denies Audit = false
allows_or_denies Alarm = false

abbrev pub is_allow : EntryKind → Bool
is_allow Allow = true
is_allow Deny = false
is_allow Audit = false
is_allow Alarm = false

abbrev pub is_deny : EntryKind → Bool
is_deny Allow = false
is_deny Deny = true
is_deny Audit = false
is_deny Alarm = false

-- Below, `names` is true of the principals that name the requester.

-- an ACE about the object itself that names the requester: it isn't INHERIT_ONLY (section 6.2.1.4.1)
abbrev pub concerns : (Who → Bool) → Entry → Bool
concerns names e = not (has_bit e.flags inherit_only) && names e.who

-- an ALLOW or DENY ACE that concerns the requester
abbrev pub applies : (Who → Bool) → Entry → Bool
applies names e = allows_or_denies e.kind && concerns names e

-- the ACE matches the bit: it applies, and has the bit
abbrev pub counts_for : (Who → Bool) → ℕ → Entry → Bool
counts_for names bit e = applies names e && has_bit e.mask bit

-- the first matching ACE of the bit, with its index
abbrev pub first_match : (Who → Bool) → List Entry → ℕ → Option (ℕ × Entry)
first_match names entries bit = find (λ p. counts_for names bit p.1) (enumerate_from 0 entries)

-- the first ACE that applies and has a bit of the mask, with its index; for a mask of one bit, the first matching ACE
abbrev pub first_match_of_mask : (Who → Bool) → List Entry → ℕ → Option (ℕ × Entry)
first_match_of_mask names entries mask =
    find (λ p. applies names p.1 && not (bit_and p.1.mask mask == 0)) (enumerate_from 0 entries)

-- which ACE allows or denies, by the ACE that was found
abbrev pub match_of : Option (ℕ × Entry) → FirstMatch
match_of None = Unmatched
match_of (Some p) = if is_allow p.1.kind then AllowedBy p.0 else DeniedBy p.0

abbrev pub is_allowed : Option (ℕ × Entry) → Bool
is_allowed None = false
is_allowed (Some p) = is_allow p.1.kind

-- whether the first matching ACE of the bit is an ALLOW
abbrev pub allows : (Who → Bool) → List Entry → ℕ → Bool
allows names entries bit = is_allowed (first_match names entries bit)
