use Rattle.nfs_ops.proofs.ResultNexts.{written_result_is}
use Rattle.nfs_ops.proofs.laws.a_written_result_is_read.Goals as goal

pub returns : goal.returns
returns c = written_result_is
