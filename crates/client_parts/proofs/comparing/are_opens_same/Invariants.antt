use Rattle.std.proofs.Common.{◌≡◌, take}
use Rattle.compound_run.specs.Views.{opens_view}
use Rattle.client_parts.proofs.comparing.are_opens_same.Given as goal

abbrev pub invariant-loop-at : goal.invariant-loop-at
invariant-loop-at g l = opens_view (take l.at l.fn.a) ≡ opens_view (take l.at l.fn.b)
