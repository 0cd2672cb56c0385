use Rattle.call_store.proofs.Representing.{checkpoint_represents}
use Rattle.call_store.proofs.laws.a_checkpoint_represents_its_server.Goals as goal

pub returns : goal.returns
returns c = checkpoint_represents
