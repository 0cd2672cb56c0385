use Rattle.nfs_ops.proofs.ResultFounds.{no_further}
use Rattle.nfs_ops.proofs.laws.reading_a_result_looks_no_further.Goals as goal

pub returns : goal.returns
returns c = no_further
