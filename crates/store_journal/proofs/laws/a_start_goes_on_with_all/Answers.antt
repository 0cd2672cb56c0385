use Rattle.store_journal.proofs.Checkpointed.{restart_law}
use Rattle.store_journal.proofs.laws.a_start_goes_on_with_all.Goals as goal

pub returns : goal.returns
returns c = restart_law
