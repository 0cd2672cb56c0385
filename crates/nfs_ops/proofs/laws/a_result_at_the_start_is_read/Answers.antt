use Rattle.nfs_ops.proofs.ResultNexts.{result_is}
use Rattle.nfs_ops.proofs.laws.a_result_at_the_start_is_read.Goals as goal

pub returns : goal.returns
returns c = result_is
