use Rattle.std.proofs.Common.{map, drop}
use Rattle.compound_run.specs.ClientState.{unknown}
use Rattle.checkpoint.proofs.Gathering.{IsApplying}
use Rattle.checkpoint.proofs.reading.client_state_of.Given as goal

abbrev pub invariant-loop-bytes : goal.invariant-loop-bytes
invariant-loop-bytes g l = IsApplying (unknown l.fn.limits) (map (λ b. b.now) l.fn.parts) l.clients (map (λ b. b.now) (drop l.bytes-index l.fn.parts))
