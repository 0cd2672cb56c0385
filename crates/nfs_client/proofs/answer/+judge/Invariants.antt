use Rattle.std.proofs.Common.{length}
use Rattle.nfs_client.proofs.answer.+judge.Given as goal

abbrev pub decreases-judge : goal.decreases-judge
decreases-judge l = length l.asked.now
