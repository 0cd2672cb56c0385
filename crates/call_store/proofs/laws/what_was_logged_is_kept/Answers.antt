use Rattle.call_store.proofs.Calls.{keep_law}
use Rattle.call_store.proofs.laws.what_was_logged_is_kept.Goals as goal

pub returns : goal.returns
returns c = keep_law
