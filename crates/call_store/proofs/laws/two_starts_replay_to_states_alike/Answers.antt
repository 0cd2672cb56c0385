use Rattle.call_store.proofs.Representing.{twice_law}
use Rattle.call_store.proofs.laws.two_starts_replay_to_states_alike.Goals as goal

pub returns : goal.returns
returns c = twice_law
