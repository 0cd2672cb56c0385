-- The sessions of the code, as the definitions see them.
use Rattle.std.specs.Prelude.{◌≡◌, ◌≤◌, ℕ, ◌+◌, Bool, true, false, List, length, Option, Some, None}
use Rattle.std.specs.Prelude.{Result, OnOk, OnErr}
use Rattle.xdr_wire.specs.Buffer.{Buffer, Appends}
use Rattle.xdr_wire.specs.Xdr.{Value}
use Rattle.rpc_record.specs.Identity.{Identity}
use Rattle.nfs_types.specs.declared.status.Status.{Status}
use Rattle.nfs_ops.specs.Forms.{sequence_args}
use Rattle.nfs_ops.specs.Operations.{Operation, Known, number_of}
use Rattle.nfs_ops.specs.Parts.{session_client, session_sequence}
use Rattle.nfs_ops.specs.Results.{Outcome}
use Rattle.nfs_ops.specs.Views.{exchange_id_args_value, create_session_args_value, destroy_session_args_value}
use Rattle.nfs_ops.specs.Views.{destroy_clientid_args_value}
use Rattle.nfs_ops.specs.declared.OpKind.TheVariants as kinds
use Rattle.session_slots.specs.Keeping.{is_created}
use Rattle.session_slots.specs.Retrying.{Fate, Runs, Retries, Fails}
use Rattle.compound_run.specs.declared.in_session.IncomingCall.{IncomingCall}
use Rattle.compound_run.specs.declared.first_operation.Lone.{Lone}
use Rattle.compound_run.specs.declared.first_operation.Lone.TheVariants as lones
use Rattle.compound_run.specs.declared.compound.Ended.{Ended}
use Rattle.compound_run.specs.declared.lone_operations.Acted.{Acted}
use Rattle.compound_run.specs.declared.kept.Ran.{Ran}
use Rattle.compound_run.specs.declared.realm.Realm as realms
use Rattle.compound_run.specs.declared.filehandles.FileHandles.{FileHandles}
use Rattle.compound_run.specs.Limits.{MIN_ROOM}
use Rattle.compound_run.specs.Realm.{Realm}
use Rattle.compound_run.specs.Context.{no_handles}
use Rattle.compound_run.specs.Runs.{Given, result_bytes, status_in}
use Rattle.compound_run.specs.Compound.{Series}
use Rattle.compound_run.specs.AnswerOf.{IsAnswerOf}
use Rattle.compound_run.specs.Views.{called, point_at}
use Rattle.compound_run.specs.Beginning.{Beginning, beginning}
use Rattle.compound_run.specs.State.{State, Call}
use Rattle.compound_run.specs.Sequence.{keeping}
use Rattle.compound_run.specs.InSession.{Reply, ActsAlone, ActsTo, RunsTo, fate_begun}
use Rattle.compound_run.specs.Keeping.{keeps_alone}
use Rattle.compound_run.specs.Delayed.{delayed_alone}
use Rattle.compound_run.specs.Recorded.{IsRan}
use Rattle.compound_run.specs.Delaying.{DelaysIn, RanBegunDelaying}
use Rattle.compound_run.specs.Written.{IsEndOf}

-- ---- the beginning of a COMPOUND

abbrev pub lone_view : Lone → Operation
lone_view (lones.ExchangeId a) = Known kinds.ExchangeId (exchange_id_args_value a)
lone_view (lones.CreateSession a) = Known kinds.CreateSession (create_session_args_value a)
lone_view (lones.DestroySession a) = Known kinds.DestroySession (destroy_session_args_value a)
lone_view (lones.DestroyClientId a) = Known kinds.DestroyClientId (destroy_clientid_args_value a)

-- ---- operations that are the only one of their COMPOUND

-- only clients and opens may differ
abbrev pub IsOfClients : {A : Type 0} → realms.Realm A → realms.Realm A → Type 0
IsOfClients old new = new ≡ record old { clients = new.clients; opens = new.opens }

-- The operation has run. If it is OK its result is written, else nothing is.
pub record ActGives (caller : Identity) (op : Operation) (old : Realm) (before : Buffer)
    (answer : Result (Unit {0}) Status) (new : Realm) (after : Buffer) : Type 0 where
  pub outcome : Result Outcome Status
  pub acts : ActsAlone caller op old outcome new
  pub answers : IsAnswerOf answer outcome
  pub written : OnOk answer (Appends before after (result_bytes (record { number = number_of op; outcome = outcome })))
  pub within : OnOk answer (length after.bytes ≤ length before.bytes + MIN_ROOM)
  pub unwritten : OnErr answer (after ≡ before)

-- The operation has run, and its result is written.
pub record ActedGives (caller : Identity) (op : Operation) (old : Realm) (before : Buffer) (ran : Acted)
    (new : Realm) (after : Buffer) : Type 0 where
  pub outcome : Result Outcome Status
  pub acts : ActsAlone caller op old outcome new
  pub written : Appends before after (result_bytes (record { number = number_of op; outcome = outcome }))
  pub outcome_is : ran.status ≡ status_in outcome
  pub kept : IsRan ran.ran (keeps_alone op outcome) (delayed_alone outcome)
  pub within : length after.bytes ≤ length before.bytes + MIN_ROOM

-- a retry of the last CREATE_SESSION of its client
abbrev pub is_again : Operation → Realm → Bool
is_again (Known kinds.CreateSession v) r = is_created r.registry (session_client v) (session_sequence v)
is_again _ r = false

-- the facts for the record of an operation that is a retry, or isn't
abbrev pub IsRanUnless : Bool → Ran → Operation → Result Outcome Status → Type 0
IsRanUnless true ran op outcome = IsRan ran false None
IsRanUnless false ran op outcome = IsRan ran (keeps_alone op outcome) (delayed_alone outcome)

-- an operation alone in its COMPOUND has this reply, and its record these facts
abbrev pub AloneGives : Identity → Operation → List ℕ → Realm → List ℕ → Ran → Realm → Type 0
AloneGives caller op tag old bytes ran new =
    (acts : ActsTo caller op tag old bytes new) × IsRanUnless (is_again op old) ran op acts.0

-- The answer is appended to the buffer, and is within the limit.
abbrev pub WritesWithin : ℕ → (List ℕ → Type 0) → Buffer → Buffer → Type 0
WritesWithin limit answers before after =
    (bytes : List ℕ) × answers bytes × Appends before after bytes × (length bytes ≤ limit)

-- ---- operations after a SEQUENCE

abbrev pub SequencedTo : {A : Type 0} → Series → Given → realms.Realm A → List ℕ → realms.Realm A → Type 0
SequencedTo s given old bytes new =
    (handles : FileHandles) × RunsTo s given (point_at old no_handles) bytes (point_at new handles)

-- the operations had this end, and the one at the given place failed its allocation
abbrev pub SequencedGives : {A : Type 0} → Option ℕ → Series → Given → realms.Realm A → List ℕ → Ended → realms.Realm A
    → Type 0
SequencedGives refused s given old bytes end new =
    (to : SequencedTo s given old bytes new) × IsEndOf end to.1.0 × DelaysIn refused s.context s.operations to.1.0

-- The operations run, and the slot caches all results.
module _ {A : Type 0} (refused : Option ℕ) (s : Series) (v : Value sequence_args) (given : Given) where
  abbrev pub SequencedCached : realms.Realm A → List ℕ → Ended → realms.Realm A → Type 0
  SequencedCached old bytes end new =
      (mid : realms.Realm A) × SequencedGives refused s given old bytes end mid
      × (new ≡ record mid { clients = keeping v bytes mid.clients })

-- ---- a call

abbrev pub call_of : IncomingCall → Call
call_of c = called c.args c.caller.now c.now

-- the beginning of the call's COMPOUND
abbrev pub begun_at : IncomingCall → Beginning
begun_at c = beginning c.compound.minor_version c.compound.count c.compound.operations.now

-- a call of this fate has these results: those of its run, or those known before
abbrev pub AnswersAs : Fate Reply → (List ℕ → Ran → State → Type 0) → State → List ℕ → Ran → State → Type 0
AnswersAs Runs run old bytes ran new = run bytes ran new
AnswersAs (Retries kept) run old bytes ran new = (Some bytes ≡ kept) × (new ≡ old) × IsRan ran false None
AnswersAs (Fails refusal) run old bytes ran new = (Some bytes ≡ refusal) × (new ≡ old) × IsRan ran false None

-- any COMPOUND
abbrev pub AnswersIncoming : IncomingCall → State → List ℕ → Ran → State → Type 0
AnswersIncoming c old bytes ran new =
    AnswersAs (fate_begun old (call_of c) c.compound.tag.now c.compound.count (begun_at c))
    (RanBegunDelaying (call_of c) c.compound.tag.now c.compound.count (begun_at c) c.refused old) old bytes ran new
