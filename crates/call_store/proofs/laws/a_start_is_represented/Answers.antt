use Rattle.call_store.proofs.Representing.{start_represents}
use Rattle.call_store.proofs.laws.a_start_is_represented.Goals as goal

pub returns : goal.returns
returns c = start_represents
