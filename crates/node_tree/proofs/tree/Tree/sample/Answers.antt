use Rattle.node_tree.proofs.Sampling.{IsSound-sample}
use Rattle.node_tree.proofs.tree.Tree.sample.Goals as goal

pub invariant_of-result : goal.invariant_of-result
invariant_of-result g c = rw c.in_ok-sample.ensures (IsSound-sample c.bounds_are_kept.ensures.mode)
