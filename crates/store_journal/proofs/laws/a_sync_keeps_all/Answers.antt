use Rattle.store_journal.proofs.Stepping.{sync_law}
use Rattle.store_journal.proofs.laws.a_sync_keeps_all.Goals as goal

pub returns : goal.returns
returns c = sync_law
