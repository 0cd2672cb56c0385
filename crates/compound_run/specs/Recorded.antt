-- An answered call, with the facts for its record: whether it is logged, and which of its operations failed an
-- allocation.
use Rattle.std.specs.Prelude.{◌≡◌, ◌≤◌, ℕ, Bool, false, List, length, Option, Some, None}
use Rattle.xdr_wire.specs.Buffer.{Buffer, Appends}
use Rattle.session_slots.specs.Retrying.{Fate, Runs, Retries, Fails}
use Rattle.compound_run.specs.declared.kept.Ran.{Ran}
use Rattle.compound_run.specs.Limits.{MAX_RESULTS}
use Rattle.compound_run.specs.State.{State, Call}
use Rattle.compound_run.specs.Beginning.{Beginning}
use Rattle.compound_run.specs.InSession.{Reply, RunsBegun, RunsCall, fate}
use Rattle.compound_run.specs.Keeping.{keeps, keeps_begun}
use Rattle.compound_run.specs.Delayed.{delayed_begun}
use Rattle.compound_run.specs.Delayed.{delayed}

pub record IsRan (ran : Ran) (keeps : Bool) (place : Option ℕ) : Type 0 where
  pub kept : ran.kept ≡ keeps
  pub delayed : ran.delayed ≡ place

-- a call with this tag, operation count and beginning
module _ (call : Call) (tag : List ℕ) (count : ℕ) (b : Beginning) where
  abbrev pub RanBegun : State → List ℕ → Ran → State → Type 0
  RanBegun old bytes ran new =
      (runs : RunsBegun call tag count b old bytes new)
      × IsRan ran (keeps_begun call tag count b old bytes new runs) (delayed_begun call tag count b old bytes new runs)

abbrev pub RanCall : Call → State → Reply → Ran → State → Type 0
RanCall call old reply ran new =
    (runs : RunsCall call old reply new) × IsRan ran (keeps call old reply new runs) (delayed call old reply new runs)

-- a call of this fate is answered, and its record has these facts
abbrev pub AnswersBy : Fate Reply → Call → State → Reply → Ran → State → Type 0
AnswersBy Runs call old reply ran new = RanCall call old reply ran new
AnswersBy (Retries kept) call old reply ran new = (reply ≡ kept) × (new ≡ old) × IsRan ran false None
AnswersBy (Fails refusal) call old reply ran new = (reply ≡ refusal) × (new ≡ old) × IsRan ran false None

abbrev pub Answers : State → Call → Reply → Ran → State → Type 0
Answers old call reply ran new = AnswersBy (fate old call) call old reply ran new

-- Results are appended to the buffer and are within the limit of a reply, or no results exist.
abbrev pub RunsRecorded : State → Call → Option Ran → Buffer → Buffer → State → Type 0
RunsRecorded old call (Some ran) before after new =
    (results : List ℕ) × Answers old call (Some results) ran new × Appends before after results
    × (length results ≤ MAX_RESULTS)
RunsRecorded old call None before after new =
    Answers old call None (record { kept = false; delayed = None }) new × (after ≡ before)
