use Rattle.std.proofs.Common.{map, drop}
use Rattle.checkpoint.proofs.Gathering.{IsTaking}
use Rattle.checkpoint.proofs.reading.restored.Given as goal

abbrev pub invariant-loop-bytes : goal.invariant-loop-bytes
invariant-loop-bytes g l = IsTaking l.fn.limits (map (λ b. b.now) l.fn.parts) l.so_far (map (λ b. b.now) (drop l.bytes-index l.fn.parts))
