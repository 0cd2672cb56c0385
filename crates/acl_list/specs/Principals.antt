use Rattle.std.specs.Prelude.{Bool, true, false}
use Rattle.acl_list.specs.declared.entry.Who.{Who}
use Rattle.acl_list.specs.declared.entry.Who.TheVariants.{Owner, Group, Everyone, User, GroupOf}

-- whether a principal is OWNER@, GROUP@ or EVERYONE@
abbrev pub is_special : Who → Bool
is_special Owner = true
is_special Group = true
is_special Everyone = true
is_special (User uid) = false
is_special (GroupOf gid) = false
