use Rattle.call_store.proofs.Calls.{mark_law}
use Rattle.call_store.proofs.laws.a_mark_leaves_what_is_kept.Goals as goal

pub returns : goal.returns
returns c = mark_law
