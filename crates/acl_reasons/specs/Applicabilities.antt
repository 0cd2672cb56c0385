-- Whether an access control entry (ACE) decides on access for a requester, and if not, why (RFC 8881, section 6.2.1).
use Rattle.std.specs.Prelude.{Bool, true, false, not, if◌then◌else◌}
use Rattle.acl_list.specs.Mask.{has_bit}
use Rattle.acl_list.specs.Places.{inherit_only}
use Rattle.acl_list.specs.Deciding.{allows_or_denies}
use Rattle.acl_list.specs.declared.entry.Entry.{Entry}
use Rattle.acl_list.specs.declared.entry.Who.{Who}
use Rattle.acl_list.specs.declared.entry.Who.TheVariants.{Owner, Group, Everyone, User, GroupOf}
use Rattle.acl_reasons.specs.declared.applicability.Applicability.{Applicability}
use Rattle.acl_reasons.specs.declared.applicability.Applicability.TheVariants.{Applies, Watches, InheritOnly}
use Rattle.acl_reasons.specs.declared.applicability.Applicability.TheVariants.{AnotherUser}
use Rattle.acl_reasons.specs.declared.applicability.Applicability.TheVariants.{NoMember}

-- why a principal doesn't name the requester; EVERYONE@ names everyone
abbrev pub other_than : Who → Applicability
other_than Owner = AnotherUser
other_than Group = NoMember
other_than Everyone = Applies
other_than (User uid) = AnotherUser
other_than (GroupOf gid) = NoMember

-- an AUDIT or ALARM ACE watches, an INHERIT_ONLY ACE is for children only, and any other applies or names others
abbrev pub applicability : (Who → Bool) → Entry → Applicability
applicability names e =
    if not (allows_or_denies e.kind) then Watches
    else if has_bit e.flags inherit_only then InheritOnly
    else if names e.who then Applies
    else other_than e.who

abbrev pub is_applying : Applicability → Bool
is_applying Applies = true
is_applying Watches = false
is_applying InheritOnly = false
is_applying AnotherUser = false
is_applying NoMember = false
