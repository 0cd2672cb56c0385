use Rattle.nfs_ops.proofs.ResultFounds.{result_found}
use Rattle.nfs_ops.proofs.laws.a_result_that_is_read_is_at_the_start.Goals as goal

pub returns : goal.returns
returns c = result_found
