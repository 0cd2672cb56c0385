-- An answered call, with the facts for its record: whether it is logged, and which of its operations failed an
-- allocation.
use Rattle.std.specs.Prelude.{ℕ, List}
use Rattle.session_slots.specs.declared.session.Begin.{Begin}
use Rattle.compound_run.specs.declared.kept.Ran.{Ran}
use Rattle.compound_run.specs.State.{State}
use Rattle.compound_run.specs.InSession.{RunsBy, Sequenced}
use Rattle.compound_run.specs.Keeping.{keeps_by}
use Rattle.compound_run.specs.Delayed.{delayed_by}
use Rattle.compound_run.specs.Recorded.{IsRan}

abbrev pub RanBy : Begin → Sequenced → State → List ℕ → Ran → State → Type 0
RanBy b c old bytes ran new =
    (runs : RunsBy b c old bytes new) × IsRan ran (keeps_by b c old bytes new runs) (delayed_by b c old bytes new runs)
