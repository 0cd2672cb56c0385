use Rattle.store_journal.proofs.Stepping.{turn_law}
use Rattle.store_journal.proofs.laws.a_turn_decides_which_log_counts.Goals as goal

pub returns : goal.returns
returns c = turn_law
