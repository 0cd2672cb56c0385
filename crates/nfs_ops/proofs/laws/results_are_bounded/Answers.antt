use Rattle.nfs_ops.proofs.Sizes.{bounded}
use Rattle.nfs_ops.proofs.laws.results_are_bounded.Goals as goal

pub returns : goal.returns
returns c = bounded
