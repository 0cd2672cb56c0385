use Rattle.call_store.proofs.Starting.{open_law}
use Rattle.call_store.proofs.laws.a_start_continues_a_represented_state.Goals as goal

pub returns : goal.returns
returns c = open_law
