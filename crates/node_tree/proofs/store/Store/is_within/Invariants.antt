use Rattle.node_tree.specs.World.{parent_of}
use Rattle.node_tree.proofs.Ways.{GoesOn}
use Rattle.node_tree.proofs.store.Store.is_within.Given as goal

abbrev pub invariant-loop : goal.invariant-loop
invariant-loop g l = GoesOn (parent_of l.self) l.self.next_number l.counter l.directory l.here l.number
