use Rattle.store_journal.proofs.Stepping.{other_law}
use Rattle.store_journal.proofs.laws.the_other_file_is_not_looked_at.Goals as goal

pub returns : goal.returns
returns c = other_law
