use Rattle.call_store.proofs.Calls.{begin_law}
use Rattle.call_store.proofs.laws.a_new_store_keeps_its_server.Goals as goal

pub returns : goal.returns
returns c = begin_law
