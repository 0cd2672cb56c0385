use Rattle.std.proofs.Common.{◌≡◌, drop}
use Rattle.trail_keeper.proofs.appending.lines_after.Given as goal

abbrev pub invariant-loop : goal.invariant-loop
invariant-loop g l = l.lines ≡ drop l.counter l.guard.log.trail
