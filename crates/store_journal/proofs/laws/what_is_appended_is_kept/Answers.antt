use Rattle.store_journal.proofs.Served.{append_law}
use Rattle.store_journal.proofs.laws.what_is_appended_is_kept.Goals as goal

pub returns : goal.returns
returns c = append_law
