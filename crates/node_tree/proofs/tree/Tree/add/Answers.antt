use Rattle.std.proofs.Common.{refl, arith, ◌<◌, ◌+◌, length}
use Rattle.node_tree.proofs.Adding.{unrefused_add, IsSound-with_new, KeepsJudged-with_new}
use Rattle.node_tree.proofs.Holding.{most_is_held}
use Rattle.node_tree.proofs.tree.Tree.add.Goals as goal

pub add-requires : goal.add-requires
add-requires g c =
    let may = unrefused_add c.self.inside.store c.args.directory c.args.name.now c.in_default.ensures in
    record { ticks = c.requires.tick.left; numbers = may.number; stamps = may.stamp; cookies = may.cookie; bytes = most_is_held c.self.inside.store.limits c.self.invariant.allowed c.args.new.kind (length c.args.new.bytes.items) (rw c.self.view_is c.requires.bytes); absent = may.none; listed = c.self.invariant.listed; numbered = c.self.invariant.numbered }

pub invariant_of-self-2 : goal.invariant_of-self-2
invariant_of-self-2 g c =
    let may = unrefused_add c.self.inside.store c.args.directory c.args.name.now c.in_default.ensures in
    let due : c.args.at.tick < c.args.at.tick + 1 = omega arith in
    rw c.in_ok-add.ensures.ok
    (IsSound-with_new _ c.self.invariant _ _ _ _ (rw c.self.view_is c.requires.tick) (rw c.self.view_is c.requires.live) may.none c.requires.short
    (record { list = c.requires.bounded; bytes = rw c.self.view_is c.requires.bytes; change = due }) refl may.room may.few may.number may.stamp may.cookie)

pub returns-clause-judged : goal.returns-clause-judged
returns-clause-judged g c = rw (← c.self.view_is, c.in_ok-add.ensures.ok) (KeepsJudged-with_new _ _ _ _ _ refl)
