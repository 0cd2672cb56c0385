use Rattle.store_journal.proofs.BegunOnce.{again_law}
use Rattle.store_journal.proofs.laws.a_start_leaves_the_next_generation_new.Goals as goal

pub returns : goal.returns
returns c = again_law
