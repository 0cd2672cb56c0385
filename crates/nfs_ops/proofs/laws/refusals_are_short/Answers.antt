use Rattle.nfs_ops.proofs.Sizes.{refusal_short}
use Rattle.nfs_ops.proofs.laws.refusals_are_short.Goals as goal

pub returns : goal.returns
returns c = refusal_short
