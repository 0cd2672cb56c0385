use Rattle.call_store.proofs.Crashes.{finished, wiped}
use Rattle.call_store.proofs.laws.what_is_kept_is_never_new.Goals as goal

pub returns : goal.returns
returns c = record { finished = finished; wiped = wiped }
