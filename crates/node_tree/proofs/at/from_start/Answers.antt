use Rattle.std.proofs.Common.{ap}
use Rattle.node_tree.proofs.Epoch.{epoch_is}
use Rattle.node_tree.specs.declared.at.At.{At}
use Rattle.nfs_types.specs.declared.moment.Moment.{Moment}
use Rattle.node_tree.proofs.at.from_start.Goals as goal

pub returns : goal.returns
returns c = ap (λ (m : Moment). let a : At = record { tick = c.args.tick; moment = m } in a) (epoch_is _)
