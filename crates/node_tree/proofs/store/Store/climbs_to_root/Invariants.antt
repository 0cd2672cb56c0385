use Rattle.std.proofs.Common.{length}
use Rattle.node_tree.specs.World.{parent_of}
use Rattle.node_tree.proofs.Restorable.{GoesUp}
use Rattle.node_tree.proofs.store.Store.climbs_to_root.Given as goal

abbrev pub invariant-loop : goal.invariant-loop
invariant-loop g l = GoesUp (parent_of l.self) (length l.self.objects) l.counter l.here l.number
