use Rattle.call_store.proofs.Served.{served_represents}
use Rattle.call_store.proofs.laws.what_is_served_is_represented.Goals as goal

pub returns : goal.returns
returns c = served_represents
