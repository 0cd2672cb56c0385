use Rattle.store_journal.proofs.Stepping.{read_law}
use Rattle.store_journal.proofs.laws.reading_leaves_a_journal.Goals as goal

pub returns : goal.returns
returns c = read_law
