use Rattle.std.proofs.Common.{◌≡◌}
use Rattle.std.specs.Prelude.{drop}
use Rattle.compound_run.specs.ClientState.{rise_above}
use Rattle.compound_run.specs.Views.{opens_view}
use Rattle.compound_run.proofs.client_state.rise.Given as goal

-- the numbers before the index rise up to the last one
abbrev pub invariant-loop-open : goal.invariant-loop-open
invariant-loop-open g l = rise_above l.last (opens_view (drop l.open-index l.opens)) ≡ rise_above 0 (opens_view l.opens)
