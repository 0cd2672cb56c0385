use Rattle.std.proofs.Common.{sym}
use Rattle.std.proofs.lemmas.List.FromFn.{length-map-range_with_len}
use Rattle.node_tree.proofs.blocks.Blocks.len.Goals as goal

pub returns : goal.returns
returns g c = rw (← c.self.view_is) (sym (length-map-range_with_len _ 0 _))
