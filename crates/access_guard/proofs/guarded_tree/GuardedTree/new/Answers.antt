use Rattle.access_guard.proofs.guarded_tree.GuardedTree.new.Goals as goal

pub invariant_of-result : goal.invariant_of-result
invariant_of-result g c = c.in_ok-guard.ensures.agrees c.args.book _ c.args.tree
