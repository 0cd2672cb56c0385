use Rattle.store_journal.proofs.Started.{refuse_law}
use Rattle.store_journal.proofs.laws.a_start_is_never_refused.Goals as goal

pub returns : goal.returns
returns c = refuse_law
