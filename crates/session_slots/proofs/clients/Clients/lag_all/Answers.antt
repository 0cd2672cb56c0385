use Rattle.session_slots.proofs.Orderly.{all_lagged_orderly}
use Rattle.session_slots.proofs.clients.Clients.lag_all.Goals as goal

pub invariant_of-self : goal.invariant_of-self
invariant_of-self g c = all_lagged_orderly c.self.inside.registry c.lag_all.new.self c.lag_all.ensures c.self.invariant
