use Rattle.call_store.proofs.Calls.{close_law}
use Rattle.call_store.proofs.laws.a_closed_store_has_no_entries.Goals as goal

pub returns : goal.returns
returns c = close_law
