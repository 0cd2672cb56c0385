-- On replay, the operation at the place that the call's record names fails its allocation: it is answered DELAY, and
-- isn't run. An operation that may never be delayed runs at that place too.
use Rattle.std.specs.Prelude.{ℕ, List, Option}
use Rattle.session_slots.specs.declared.session.Begin.{Begin}
use Rattle.compound_run.specs.declared.kept.Ran.{Ran}
use Rattle.compound_run.specs.State.{State}
use Rattle.compound_run.specs.InSession.{Sequenced}
use Rattle.compound_run.specs.internal.Recorded.{RanBy}
use Rattle.compound_run.specs.Delaying.{DelaysBy}

abbrev pub RanByDelaying : Option ℕ → Begin → Sequenced → State → List ℕ → Ran → State → Type 0
RanByDelaying refused b c old bytes ran new =
    (outcome : RanBy b c old bytes ran new) × DelaysBy refused b c old bytes new outcome.0
