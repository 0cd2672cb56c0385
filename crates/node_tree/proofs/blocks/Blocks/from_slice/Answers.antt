use Rattle.std.proofs.Common.{◌∙◌}
use Rattle.node_tree.proofs.Placing.{written_all}
use Rattle.node_tree.proofs.blocks.Blocks.from_slice.Goals as goal

pub returns : goal.returns
returns g c = c.in_ok-write.ensures.ok ∙ written_all _ _ c.new-blocks.ensures
