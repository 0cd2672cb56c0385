use Rattle.store_journal.proofs.Stepping.{admit_law}
use Rattle.store_journal.proofs.laws.a_whole_log_may_count.Goals as goal

pub returns : goal.returns
returns c = admit_law
