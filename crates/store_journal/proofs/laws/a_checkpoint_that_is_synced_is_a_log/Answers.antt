use Rattle.store_journal.proofs.Stepping.{whole_law}
use Rattle.store_journal.proofs.laws.a_checkpoint_that_is_synced_is_a_log.Goals as goal

pub returns : goal.returns
returns c = whole_law
