use Rattle.store_journal.proofs.Stepping.{resume_law}
use Rattle.store_journal.proofs.laws.what_is_written_again_goes_on.Goals as goal

pub returns : goal.returns
returns c = resume_law
