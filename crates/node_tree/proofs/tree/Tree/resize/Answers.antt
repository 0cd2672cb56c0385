use Rattle.std.proofs.Common.{arith, ap, ◌≤◌, length}
use Rattle.nfs_types.specs.Limits.{Limits}
use Rattle.node_tree.specs.World.{bytes_of}
use Rattle.node_tree.proofs.Setting.{short_file, IsSound-with_size, KeepsJudged-with_size}
use Rattle.node_tree.proofs.tree.Tree.resize.Goals as goal

pub invariant_of-self : goal.invariant_of-self
invariant_of-self g c = rw c.resize.ensures (IsSound-with_size _ _ _ _ c.self.invariant (rw c.self.view_is c.requires.tick) (rw c.self.view_is c.requires.file) (omega (arith, c.if-size-bytes.false, c.bytes.ensures, ap (λ (l : Limits). l.bytes) c.limits.ensures)))

pub returns-clause-judged : goal.returns-clause-judged
returns-clause-judged g c = rw (← c.self.view_is) (rw c.resize.ensures (KeepsJudged-with_size _ _ _ _))

pub returns-then-size-bytes-clause-shrinks : goal.returns-then-size-bytes-clause-shrinks
returns-then-size-bytes-clause-shrinks g c =
    let small : length (bytes_of c.self.inside.store c.args.file) ≤ c.self.inside.store.limits.bytes = short_file c.self.inside.store c.self.invariant c.args.file (rw c.self.view_is c.requires.file) in
    rw (← c.self.view_is) (λ (h : c.args.size ≤ length (bytes_of c.self.inside.store c.args.file)). absurd (omega (arith, h, small, c.bytes.ensures, ap (λ (l : Limits). l.bytes) c.limits.ensures)))
