use Rattle.call_store.proofs.Sizing.{IsCounted}
use Rattle.call_store.proofs.sizes.size_of.Given as goal

abbrev pub invariant-loop-bytes : goal.invariant-loop-bytes
invariant-loop-bytes l = IsCounted (λ b. b.now) l.fn.all l.size l.bytes-index
