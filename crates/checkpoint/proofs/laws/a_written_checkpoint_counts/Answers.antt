use Rattle.checkpoint.proofs.Counting.{counts_law}
use Rattle.checkpoint.proofs.laws.a_written_checkpoint_counts.Goals as goal

pub returns : goal.returns
returns c = counts_law
