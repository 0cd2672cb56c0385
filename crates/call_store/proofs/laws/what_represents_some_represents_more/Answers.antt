use Rattle.call_store.proofs.Served.{wider}
use Rattle.call_store.proofs.laws.what_represents_some_represents_more.Goals as goal

pub returns : goal.returns
returns c = wider
