use Rattle.nfs_ops.proofs.Sizes.{change_short}
use Rattle.nfs_ops.proofs.laws.changes_are_short.Goals as goal

pub returns : goal.returns
returns c = change_short
