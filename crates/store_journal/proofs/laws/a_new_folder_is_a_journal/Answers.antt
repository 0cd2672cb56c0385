use Rattle.store_journal.proofs.Stepping.{new_law}
use Rattle.store_journal.proofs.laws.a_new_folder_is_a_journal.Goals as goal

pub returns : goal.returns
returns c = new_law
