use Rattle.store_journal.proofs.BegunOnce.{new_law}
use Rattle.store_journal.proofs.laws.a_generation_that_is_begun_is_new.Goals as goal

pub returns : goal.returns
returns c = new_law
