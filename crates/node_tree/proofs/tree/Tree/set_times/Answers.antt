use Rattle.node_tree.proofs.Setting.{IsSound-with_times, KeepsJudged-with_times}
use Rattle.node_tree.proofs.tree.Tree.set_times.Goals as goal

pub invariant_of-self : goal.invariant_of-self
invariant_of-self g c = rw c.set_times.ensures (IsSound-with_times _ _ c.args.access c.args.modify c.args.at c.self.invariant (rw c.self.view_is c.requires))

pub returns-clause-judged : goal.returns-clause-judged
returns-clause-judged g c = rw (← c.self.view_is) (rw c.set_times.ensures (KeepsJudged-with_times _ _ c.args.access c.args.modify c.args.at))
