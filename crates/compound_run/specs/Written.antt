-- The results of a COMPOUND, as the code writes them.
use Rattle.std.specs.Prelude.{◌≡◌, ◌≤◌, ℕ, ◌+◌, ◌-◌, List, length, Option, Some, None, Result, OnOk}
use Rattle.std.specs.List.{list_any}
use Rattle.xdr_wire.specs.Buffer.{Buffer, Appends}
use Rattle.nfs_types.specs.declared.status.Status.{Status}
use Rattle.nfs_ops.specs.Operations.{Operation, number_of}
use Rattle.nfs_ops.specs.Results.{Outcome}
use Rattle.compound_run.specs.declared.compound.Ended.{Ended}
use Rattle.compound_run.specs.declared.realm.Realm as realms
use Rattle.compound_run.specs.declared.filehandles.FileHandles.{FileHandles}
use Rattle.compound_run.specs.Limits.{MAX_RESULTS, REFUSAL_ROOM}
use Rattle.compound_run.specs.Context.{Context, no_handles}
use Rattle.compound_run.specs.Runs.{Point, Given, Steps, Runs, result_bytes, results_bytes}
use Rattle.compound_run.specs.AnswerOf.{IsAnswerOf}
use Rattle.compound_run.specs.Compound.{Series, head, together, last_status}
use Rattle.compound_run.specs.Views.{Stage, point_at}
use Rattle.compound_run.specs.Keeping.{is_change}
use Rattle.compound_run.specs.Delayed.{delayed_in}
use Rattle.compound_run.specs.Delaying.{DelaysIn}

-- An operation runs at its place, and its result is written.
pub record StepGives {A : Type 0} (c : Context) (op : Operation) (old : Stage Point) (answer : Result A Status)
    (new : Stage Point) : Type 0 where
  pub outcome : Result Outcome Status
  pub steps : Steps c op old.at outcome new.at
  pub written : Appends old.out new.out (result_bytes (record { number = number_of op; outcome = outcome }))
  pub fits : OnOk answer (length new.out.bytes ≤ length old.out.bytes + c.room)
  pub within : length new.out.bytes ≤ length old.out.bytes + c.room + REFUSAL_ROOM
  pub answers : IsAnswerOf answer outcome

-- The end of these operations: whether one that changes state was OK, and which failed an allocation.
pub record IsEndOf (end : Ended) (results : List Given) : Type 0 where
  pub changed : end.changed ≡ list_any is_change results
  pub delayed : end.delayed ≡ delayed_in results

-- Operations run in turn, and their results are written. The one at the given place, if any, fails its allocation.
pub record RunGives {A : Type 0} (refused : Option ℕ) (c : Context) (operations : List ℕ)
    (old : Stage (realms.Realm A)) (end : Ended) (new : Stage (realms.Realm A)) : Type 0 where
  pub handles : FileHandles
  pub results : List Given
  pub runs : Runs c (c.count - c.position) operations (point_at old.at no_handles) results (point_at new.at handles)
  pub written : Appends old.out new.out (results_bytes results)
  pub status : end.status ≡ last_status results
  pub ran : end.ran ≡ c.position + length results
  pub kept : IsEndOf end results
  pub delays : DelaysIn refused c operations results
  pub within : length new.out.bytes ≤ length old.out.bytes + c.room + REFUSAL_ROOM

-- The operations are refused before any runs, or run in turn: the results, and the point that they end at.
abbrev pub Opens : Option Status → Series → Point → List ℕ → Point → Type 0
Opens (Some status) s old bytes new = (bytes ≡ head status s.tag 0) × (new ≡ old)
Opens None s old bytes new =
    (results : List Given) × Runs s.context s.context.count s.operations old results new
    × (bytes ≡ together s.tag results)

abbrev pub OpensTo : {A : Type 0} → Option Status → Series → realms.Realm A → List ℕ → realms.Realm A → Type 0
OpensTo fault s old bytes new =
    (handles : FileHandles) × Opens fault s (point_at old no_handles) bytes (point_at new handles)

-- The answer is appended to the buffer, and is within the limit of a reply.
abbrev pub WritesAnswer : (List ℕ → Type 0) → Buffer → Buffer → Type 0
WritesAnswer answers before after =
    (bytes : List ℕ) × answers bytes × Appends before after bytes × (length bytes ≤ MAX_RESULTS)
