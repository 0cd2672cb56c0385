use Rattle.std.proofs.Common.{◌≡◌}
use Rattle.compound_run.proofs.client_state.renew_all.Given as goal

abbrev pub invariant-loop-client : goal.invariant-loop-client
invariant-loop-client g l = l.clients ≡ l.fn.clients
