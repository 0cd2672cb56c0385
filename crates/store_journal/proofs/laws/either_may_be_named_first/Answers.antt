use Rattle.store_journal.proofs.Checkpointed.{either_law}
use Rattle.store_journal.proofs.laws.either_may_be_named_first.Goals as goal

pub returns : goal.returns
returns c = either_law
