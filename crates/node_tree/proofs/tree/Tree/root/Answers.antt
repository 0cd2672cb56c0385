use Rattle.node_tree.proofs.tree.Tree.root.Goals as goal

pub returns-clause-live : goal.returns-clause-live
returns-clause-live g c = rw (← c.self.view_is) c.self.invariant.rooted.root
