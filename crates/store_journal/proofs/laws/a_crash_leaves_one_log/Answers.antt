use Rattle.store_journal.proofs.Surviving.{crash_law}
use Rattle.store_journal.proofs.laws.a_crash_leaves_one_log.Goals as goal

pub returns : goal.returns
returns c = crash_law
