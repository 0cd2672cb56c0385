use Rattle.node_tree.proofs.Places.{IsPlaced-none}
use Rattle.node_tree.proofs.node_table.NodeTable.new.Goals as goal

pub invariant_of-result : goal.invariant_of-result
invariant_of-result g c = IsPlaced-none _ c.new-2.result.entries c.new-2.ensures.ordered c.new.ensures.empty c.new-2.ensures.empty
