use Rattle.acl_list.proofs.Adding.{Summed}
use Rattle.acl_list.specs.Deciding.{is_true_for}
use Rattle.acl_list.proofs.summing.summary_of.Given as goal

abbrev pub invariant-loop-entry : goal.invariant-loop-entry
invariant-loop-entry l =
    Summed (is_true_for l.owner l.group l.caller) l.entries l.summary l.decided l.entry-index
