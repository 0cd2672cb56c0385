use Rattle.node_tree.proofs.Reading.{read_in_order}
use Rattle.node_tree.proofs.laws.parts_are_read_in_order.Goals as goal

pub returns : goal.returns
returns c = read_in_order
