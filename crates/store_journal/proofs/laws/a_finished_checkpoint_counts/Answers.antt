use Rattle.store_journal.proofs.Checkpointed.{finish_law}
use Rattle.store_journal.proofs.laws.a_finished_checkpoint_counts.Goals as goal

pub returns : goal.returns
returns c = finish_law
