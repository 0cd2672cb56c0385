use Rattle.call_store.proofs.Representing.{nothing_represents, record_represents}
use Rattle.call_store.proofs.laws.a_record_extends_the_store.Goals as goal

pub returns : goal.returns
returns c = record { more = record_represents; none = nothing_represents }
