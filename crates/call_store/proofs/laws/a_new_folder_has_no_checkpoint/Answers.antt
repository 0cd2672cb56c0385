use Rattle.call_store.proofs.Crashes.{nothing_there}
use Rattle.call_store.proofs.laws.a_new_folder_has_no_checkpoint.Goals as goal

pub returns : goal.returns
returns c = nothing_there
