use Rattle.store_journal.proofs.Stepping.{frame_law}
use Rattle.store_journal.proofs.laws.a_frame_is_loose_until_its_sync.Goals as goal

pub returns : goal.returns
returns c = frame_law
