use Rattle.store_journal.proofs.Checkpointed.{further_law}
use Rattle.store_journal.proofs.laws.a_further_part_leaves_the_log.Goals as goal

pub returns : goal.returns
returns c = further_law
