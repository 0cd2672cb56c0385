use Rattle.std.proofs.Common.{◌*◌, ◌/◌, arith}
use Rattle.node_tree.specs.World.{bytes_of}
use Rattle.tree_parts.proofs.Pieces.{next_none, next_data, next_last}
use Rattle.tree_parts.proofs.part.next_rest.Goals as goal

pub returns-then-last-at : goal.returns-then-last-at
returns-then-last-at g c = next_none (bytes_of c.args.tree.now c.args.number) c.args.at (c.saturating_sub.result / 1048576 * 1048576) (omega arith) (omega arith)

pub returns-in-Some : goal.returns-in-Some
returns-in-Some g c = next_data (bytes_of c.args.tree.now c.args.number) c.args.at (c.saturating_sub.result / 1048576 * 1048576) c.in-Some.place (omega arith) (omega arith) c.in-Some.ensures.data.0 c.in-Some.ensures.data.1 c.in-Some.ensures.skipped

pub returns-in-None : goal.returns-in-None
returns-in-None g c = next_last (bytes_of c.args.tree.now c.args.number) c.args.at (c.saturating_sub.result / 1048576 * 1048576) (omega arith) (omega arith) c.in-None.ensures.none
