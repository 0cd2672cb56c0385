-- The run of a COMPOUND's operations, in turn up to and including the first that isn't OK (RFC 8881, section 16.2.3).
use Rattle.std.specs.Prelude.{◌≡◌, ◌≢◌, ℕ, zero, suc, Bool, true, false, List, [], ◌∷◌, length, Result, Ok, Err}
use Rattle.std.specs.Prelude.{MatchResult, OnOk, OnErr}
use Rattle.std.specs.List.{flat_map}
use Rattle.nfs_types.specs.declared.status.Status.{Status}
use Rattle.nfs_types.specs.declared.status.Status.TheVariants as statuses
use Rattle.nfs_ops.specs.Items.{item_spelling}
use Rattle.nfs_ops.specs.Operations.{Operation, next_at, number_of}
use Rattle.nfs_ops.specs.Results.{Outcome, outcome_item, refusal, refused}
use Rattle.access_guard.specs.declared.line.Line.{Line}
use Rattle.access_guard.specs.Log.{Log, held, settled}
use Rattle.compound_run.specs.declared.filehandles.FileHandles.{FileHandles}
use Rattle.compound_run.specs.Realm.{Realm}
use Rattle.compound_run.specs.Context.{Context, context_after}
use Rattle.compound_run.specs.Settings.{Settings}
use Rattle.compound_run.specs.Sight.{whole}
use Rattle.compound_run.specs.Questions.{failure, trace, result_unless}
use Rattle.compound_run.specs.Meaning.{Meaning}
use Rattle.compound_run.specs.Operations.{meaning, may_delay}

-- ---- one operation

-- the state that a COMPOUND has reached
pub record Point : Type 0 where
  pub realm : Realm
  pub log : Log
  pub settings : Settings
  pub handles : FileHandles

abbrev pub outcome : Meaning → Realm → Result Outcome Status
outcome m r = result_unless (failure m.caller (whole r) m.questions) (m.answer (whole r))

-- the lines that an operation writes
abbrev pub traced : Meaning → Realm → List Line
traced m r = trace m.caller m.number (whole r) m.questions

-- the condition holds, unless the result is DELAY and may be
abbrev pub Unless : Bool → Result Outcome Status → Type 0 → Type 0
Unless true result A = result ≢ Err statuses.Delay → A
Unless false result A = A

-- An operation is answered. Its outcome is the status of the first question that fails, else its result. Its lines are
-- held, and then pass through `ends`. If it is OK it has its effect, else none. An operation that may be delayed
-- answers DELAY in place of any outcome, if an allocation failed. Then it has no line in the trail.
pub record Answered (may : Bool) (m : Meaning) (ends : Log → Log) (old : Point) (result : Result Outcome Status)
    (new : Point) : Type 0 where
  pub outcome : Unless may result (result ≡ outcome m old.realm)
  pub log : Unless may result (new.log ≡ ends (held (traced m old.realm) old.log))
  pub trail_stays : result ≡ Err statuses.Delay → new.log.trail ≡ old.log.trail
  pub total_stays : result ≡ Err statuses.Delay → new.log.total ≡ old.log.total
  pub realm : OnOk result (new.realm ≡ m.effect old.realm)
  pub handles : OnOk result (new.handles ≡ m.goes (whole old.realm))
  pub realm_stays : OnErr result (new.realm ≡ old.realm)
  pub handles_stay : OnErr result (new.handles ≡ old.handles)
  pub settings : new.settings ≡ old.settings

-- the lines are held until the operation ends
abbrev pub waits : Log → Log
waits log = log

-- an operation from this point of the COMPOUND, with its end: its lines go to the trail
abbrev pub Steps : Context → Operation → Point → Result Outcome Status → Point → Type 0
Steps c op old result new = Answered (may_delay c op) (meaning c old.handles op) (settled true) old result new

-- ---- operations in turn

-- the number of an operation, and its outcome
pub record Given : Type 0 where
  pub number : ℕ
  pub outcome : Result Outcome Status

abbrev pub result_from : ℕ → Result Outcome Status → Outcome
result_from number (Ok outcome) = outcome
result_from number (Err status) = refused number (refusal status)

abbrev pub result_of : Given → Outcome
result_of given = result_from given.number given.outcome

-- the bytes of a result
unfoldable pub spelled : Outcome → List ℕ
spelled o = item_spelling (outcome_item o)

abbrev pub result_bytes : Given → List ℕ
result_bytes given = spelled (result_of given)

abbrev pub results_bytes : List Given → List ℕ
results_bytes results = flat_map result_bytes results

abbrev pub status_in : Result Outcome Status → Status
status_in (Ok outcome) = statuses.Ok
status_in (Err status) = status

abbrev pub status_of : Given → Status
status_of given = status_in given.outcome

-- The results of the operations in these bytes, which are counted, from this context of the first. Each is the result
-- of the next operation, at the point that the operations before it have reached. Those after the first that isn't OK
-- aren't decoded.
abbrev pub Runs : Context → ℕ → List ℕ → Point → List Given → Point → Type 0
Runs c zero bytes old [] new = new ≡ old
Runs c zero bytes old (given ∷ results) new = ⊥
Runs c (suc n) bytes old [] new = ⊥
Runs c (suc n) bytes old (given ∷ results) new =
    (mid : Point) × (given.number ≡ number_of (next_at bytes).0) × Steps c (next_at bytes).0 old given.outcome mid
    × MatchResult given.outcome
    (λ outcome. Runs (context_after c (length (result_bytes given))) n (next_at bytes).1 mid results new)
    (λ status. (results ≡ []) × (new ≡ mid))
