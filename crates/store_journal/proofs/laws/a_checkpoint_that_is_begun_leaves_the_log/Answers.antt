use Rattle.store_journal.proofs.Served.{begin_law}
use Rattle.store_journal.proofs.laws.a_checkpoint_that_is_begun_leaves_the_log.Goals as goal

pub returns : goal.returns
returns c = begin_law
