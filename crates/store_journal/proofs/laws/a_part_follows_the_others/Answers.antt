use Rattle.store_journal.proofs.Stepping.{part_law}
use Rattle.store_journal.proofs.laws.a_part_follows_the_others.Goals as goal

pub returns : goal.returns
returns c = part_law
