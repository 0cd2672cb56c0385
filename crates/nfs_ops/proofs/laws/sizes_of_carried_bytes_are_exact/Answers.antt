use Rattle.nfs_ops.proofs.Sizes.{carried_is}
use Rattle.nfs_ops.proofs.laws.sizes_of_carried_bytes_are_exact.Goals as goal

pub returns : goal.returns
returns c = carried_is
