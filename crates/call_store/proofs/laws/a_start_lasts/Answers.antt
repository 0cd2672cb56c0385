use Rattle.call_store.proofs.Lasting.{start_lasts}
use Rattle.call_store.proofs.laws.a_start_lasts.Goals as goal

pub returns : goal.returns
returns c = start_lasts
