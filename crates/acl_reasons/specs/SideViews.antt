-- An object's access control list (ACL), owner and group, which decide on access to it, with the ACL by value.
use Rattle.acl_reasons.specs.Removals.{Side}
use Rattle.acl_reasons.specs.declared.removal.Governed.{Governed}

abbrev pub side : {A : Type 0} → Governed A → Side
side g = record { owner = g.owner; group = g.group; list = g.list.now }
