use Rattle.std.proofs.Common.{arith, ap}
use Rattle.nfs_types.specs.Limits.{Limits}
use Rattle.node_tree.proofs.Setting.{IsSound-with_bytes, KeepsJudged-with_bytes}
use Rattle.node_tree.proofs.tree.Tree.write.Goals as goal

pub invariant_of-self-2 : goal.invariant_of-self-2
invariant_of-self-2 g c = rw c.in_ok-write.ensures.ok (IsSound-with_bytes _ _ _ _ _ c.self.invariant (rw c.self.view_is c.requires.tick) (rw c.self.view_is c.requires.file) (omega (arith, ap (λ (l : Limits). l.bytes) c.limits.ensures)))

pub returns-clause-judged : goal.returns-clause-judged
returns-clause-judged g c = rw (← c.self.view_is) (rw c.in_ok-write.ensures.ok (KeepsJudged-with_bytes _ _ _ _ _))
