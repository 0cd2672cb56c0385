use Rattle.store_journal.proofs.Stepping.{first_law}
use Rattle.store_journal.proofs.laws.the_first_part_is_alone.Goals as goal

pub returns : goal.returns
returns c = first_law
