use Rattle.nfs_ops.proofs.Nexts.{written_is_next}
use Rattle.nfs_ops.proofs.laws.what_is_written_is_read.Goals as goal

pub returns : goal.returns
returns c = written_is_next
