use Rattle.store_journal.proofs.Started.{find_law}
use Rattle.store_journal.proofs.laws.a_start_finds_one_of_the_logs.Goals as goal

pub returns : goal.returns
returns c = find_law
