use Rattle.client_parts.proofs.AppliedChanges.{IsPrefixOfChanges}
use Rattle.client_parts.proofs.leading.apply_all.Given as goal

abbrev pub invariant-loop-left : goal.invariant-loop-left
invariant-loop-left g l = IsPrefixOfChanges l.fn.count l.fn.clients l.fn.reader l.left l.clients l.reader

abbrev pub decreases-loop-left : goal.decreases-loop-left
decreases-loop-left g l = l.left
