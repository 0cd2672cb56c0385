use Rattle.acl_list.specs.Deciding.{is_true_for}
use Rattle.acl_list.proofs.Matching.{Ahead}
use Rattle.acl_list.proofs.deciding.first_match_in.Given as goal

abbrev pub invariant-loop-index : goal.invariant-loop-index
invariant-loop-index l = Ahead (is_true_for l.owner l.group l.caller) l.entries l.mask l.index
