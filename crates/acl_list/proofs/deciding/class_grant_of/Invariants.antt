use Rattle.acl_list.specs.Deciding.{is_class}
use Rattle.acl_list.proofs.Adding.{Granting}
use Rattle.acl_list.proofs.deciding.class_grant_of.Given as goal

abbrev pub invariant-loop-entry : goal.invariant-loop-entry
invariant-loop-entry l = Granting (is_class l.class) l.entries l.granted l.decided l.entry-index
