-- A call with sessions: it is refused, is a retry, or is run (RFC 8881, sections 2.10.6 and 16.2).
use Rattle.std.specs.Prelude.{◌≡◌, ◌≤◌, ℕ, Bool, ◌-◌, List, [], ◌∷◌, length, Option, Some, None, Result, Err}
use Rattle.xdr_wire.specs.Reading.{read_at}
use Rattle.xdr_wire.specs.Xdr.{Value}
use Rattle.rpc_record.specs.Identity.{Identity}
use Rattle.who_book.specs.Members.{member}
use Rattle.nfs_types.specs.declared.status.Status.{Status}
use Rattle.nfs_ops.specs.Forms.{sequence_args}
use Rattle.nfs_ops.specs.Operations.{Operation, Known, number_of}
use Rattle.nfs_ops.specs.Parts.{sequence_session, sequence_slot}
use Rattle.nfs_ops.specs.Results.{Outcome}
use Rattle.nfs_ops.specs.Rows.{row}
use Rattle.nfs_ops.specs.declared.OpKind.TheVariants as kinds
use Rattle.session_slots.specs.declared.client.Created.{Created}
use Rattle.session_slots.specs.declared.session.Begin.{Begin}
use Rattle.session_slots.specs.declared.session.Begin.TheVariants as begins
use Rattle.session_slots.specs.declared.session.NewCall.{NewCall}
use Rattle.session_slots.specs.Registry.{Registry, results_at}
use Rattle.session_slots.specs.Retrying.{Fate, Runs, Retries, Fails, AnswersBy}
use Rattle.session_slots.specs.Sequencing.{Asked, sequence_begin, sequence_begun}
use Rattle.compound_run.specs.Limits.{REPLY_HEADER}
use Rattle.compound_run.specs.Realm.{Realm}
use Rattle.compound_run.specs.Context.{Context}
use Rattle.compound_run.specs.Runs as runs
use Rattle.compound_run.specs.Runs.{Point, Given}
use Rattle.compound_run.specs.Compound.{Series, args_form, args_in, head, series, together}
use Rattle.compound_run.specs.State.{State, Call, start, left}
use Rattle.compound_run.specs.Sessions.{session_of, outcome_from, with_registry}
use Rattle.compound_run.specs.Beginning.{Beginning, Ends, Refuses, Acts, Follows, beginning}
use Rattle.compound_run.specs.ExchangeId.{ExchangesId}
use Rattle.compound_run.specs.CreateSession.{CreatesSession, created_before, session_made}
use Rattle.compound_run.specs.DestroySession.{DestroysSession}
use Rattle.compound_run.specs.DestroyClientid.{DestroysClient}
use Rattle.compound_run.specs.Sequence.{asked_by, calling_by, compared, room_after_sequence, sequence_done, keeping}

-- the bytes of a reply, or none if the arguments are garbage
abbrev pub Reply : Type 0
Reply = Option (List ℕ)

-- one operation has this outcome, under the tag of its call
abbrev pub given_alone : List ℕ → ℕ → Result Outcome Status → List ℕ
given_alone tag number outcome = together tag (record { number = number; outcome = outcome } ∷ [])

abbrev pub refused_alone : List ℕ → ℕ → Status → List ℕ
refused_alone tag number status = given_alone tag number (Err status)

-- ---- operations that must be the only one of their COMPOUND

abbrev pub ActsAlone : Identity → Operation → Realm → Result Outcome Status → Realm → Type 0
ActsAlone caller (Known kinds.ExchangeId v) old outcome new = ExchangesId caller v old outcome new
ActsAlone caller (Known kinds.CreateSession v) old outcome new = CreatesSession caller v old outcome new
ActsAlone caller (Known kinds.DestroySession v) old outcome new = DestroysSession v old outcome new
ActsAlone caller (Known kinds.DestroyClientId v) old outcome new = DestroysClient v old outcome new
ActsAlone caller _ old outcome new = ⊥

-- an operation alone in its COMPOUND has its result under the tag of its call
abbrev pub ActsTo : Identity → Operation → List ℕ → Realm → List ℕ → Realm → Type 0
ActsTo caller op tag old bytes new =
    (outcome : Result Outcome Status) × ActsAlone caller op old outcome new
    × (bytes ≡ given_alone tag (number_of op) outcome)

-- ---- operations after a SEQUENCE

-- The operations run in turn, and their results follow that of SEQUENCE.
abbrev pub RunsTo : Series → Given → Point → List ℕ → Point → Type 0
RunsTo s given old bytes new =
    (results : List Given)
    × runs.Runs s.context (s.context.count - s.context.position) s.operations old results new
    × (bytes ≡ together s.tag (given ∷ results))

-- the realm with other clients and sessions
abbrev pub in_registry : Registry → State → State
in_registry registry s = record s { realm = with_registry registry s.realm }

-- the request of this SEQUENCE, in a call with this operation count and these bytes after SEQUENCE
abbrev pub asked_in : Bool → Call → ℕ → Value sequence_args → List ℕ → Asked
asked_in lasting call count v operations =
    asked_by v count call.record_len call.caller (compared lasting call.arguments (length operations))

abbrev pub begin_in : Realm → Call → ℕ → Value sequence_args → List ℕ → Begin
begin_in r call count v operations =
    sequence_begin r.registry (session_of (sequence_session v)) (asked_in r.lasting call count v operations)

abbrev pub begun_in : Realm → Call → ℕ → Value sequence_args → List ℕ → Registry
begun_in r call count v operations =
    sequence_begun r.registry (session_of (sequence_session v)) (asked_in r.lasting call count v operations)

-- the context of the first operation after SEQUENCE
abbrev pub call_context_after_sequence : State → Call → List ℕ → ℕ → Value sequence_args → NewCall → Context
call_context_after_sequence s call tag count v new = record {
  caller = member s.settings.book call.caller;
  now = call.now;
  book = s.settings.book;
  times = s.realm.world.limits.times;
  calling = Some (calling_by v new);
  position = 1;
  count = count;
  room = room_after_sequence tag v new;
}

-- a call that begins with a SEQUENCE: its tag, its operation count, the arguments of SEQUENCE, and the bytes of the
-- operations after it
pub record Sequenced : Type 0 where
  pub call : Call
  pub tag : List ℕ
  pub count : ℕ
  pub sequence : Value sequence_args
  pub operations : List ℕ

abbrev pub sequenced : Call → List ℕ → ℕ → Value sequence_args → List ℕ → Sequenced
sequenced call tag count v operations =
    record { call = call; tag = tag; count = count; sequence = v; operations = operations }

-- The operations run in the realm after SEQUENCE has begun the call. At the end its slot caches all results. They are
-- no more than a reply of the granted size may have.
abbrev pub RunsOnSlot : State → Sequenced → NewCall → List ℕ → State → Type 0
RunsOnSlot old c granted bytes new =
    (end : Point)
    × RunsTo (series c.tag (call_context_after_sequence old c.call c.tag c.count c.sequence granted) c.operations)
    (sequence_done c.sequence granted.highest_slot)
    (start (in_registry (begun_in old.realm c.call c.count c.sequence c.operations) old)) bytes end
    × (new ≡ in_registry (keeping c.sequence bytes end.realm.registry) (left old end))
    × (length bytes ≤ granted.reply_size - REPLY_HEADER)

-- ---- the fate of a call, which is known before any operation runs

-- a CREATE_SESSION with the sequence ID of the last one gets the cached result
abbrev pub again : List ℕ → Option (Result Created Status) → Fate Reply
again tag None = Runs
again tag (Some kept) = Retries (Some (given_alone tag (row kinds.CreateSession).number (outcome_from session_made kept)))

abbrev pub fate_alone : List ℕ → Operation → Realm → Fate Reply
fate_alone tag (Known kinds.CreateSession v) r = again tag (created_before v r)
fate_alone tag _ r = Runs

-- a retry of the last call of its slot gets the cached reply
abbrev pub fate_by : List ℕ → Value sequence_args → Registry → Begin → Fate Reply
fate_by tag v r (begins.New new) = Runs
fate_by tag v r begins.Repeat = Retries (Some (results_at r (session_of (sequence_session v)) (sequence_slot v)))
fate_by tag v r (begins.Refused status) = Fails (Some (refused_alone tag (row kinds.Sequence).number status))

-- A COMPOUND without operations is answered without a result. So is one that is refused before its first operation.
abbrev pub fate_begun : State → Call → List ℕ → ℕ → Beginning → Fate Reply
fate_begun s call tag count (Ends status) = Fails (Some (head status tag 0))
fate_begun s call tag count (Refuses number status) = Fails (Some (refused_alone tag number status))
fate_begun s call tag count (Acts op) = fate_alone tag op s.realm
fate_begun s call tag count (Follows v operations) =
    fate_by tag v s.realm.registry (begin_in s.realm call count v operations)

abbrev pub fate_of : State → Call → Option (Value args_form × List ℕ) → Fate Reply
fate_of s call None = Fails None
fate_of s call (Some ((tag, (minor, count)), operations)) =
    fate_begun s call tag count (beginning minor count operations)

unfoldable pub fate : State → Call → Fate Reply
fate s call = fate_of s call (args_in (read_at args_form call.arguments))

-- ---- a call that is run

abbrev pub RunsAlone : Call → List ℕ → Operation → State → List ℕ → State → Type 0
RunsAlone call tag op old bytes new =
    ActsTo call.caller op tag old.realm bytes new.realm × (new ≡ record old { realm = new.realm })

abbrev pub RunsBy : Begin → Sequenced → State → List ℕ → State → Type 0
RunsBy (begins.New granted) c old bytes new = RunsOnSlot old c granted bytes new
RunsBy begins.Repeat c old bytes new = ⊥
RunsBy (begins.Refused status) c old bytes new = ⊥

abbrev pub RunsBegun : Call → List ℕ → ℕ → Beginning → State → List ℕ → State → Type 0
RunsBegun call tag count (Ends status) old bytes new = ⊥
RunsBegun call tag count (Refuses number status) old bytes new = ⊥
RunsBegun call tag count (Acts op) old bytes new = RunsAlone call tag op old bytes new
RunsBegun call tag count (Follows v operations) old bytes new =
    RunsBy (begin_in old.realm call count v operations) (sequenced call tag count v operations) old bytes new

abbrev pub RunsOf : Call → Option (Value args_form × List ℕ) → State → Reply → State → Type 0
RunsOf call None old reply new = ⊥
RunsOf call (Some ((tag, (minor, count)), operations)) old None new = ⊥
RunsOf call (Some ((tag, (minor, count)), operations)) old (Some bytes) new =
    RunsBegun call tag count (beginning minor count operations) old bytes new

unfoldable pub RunsCall : Call → State → Reply → State → Type 0
RunsCall call old reply new = RunsOf call (args_in (read_at args_form call.arguments)) old reply new

-- ---- the answer

-- A call may have this reply and end in this state. A refusal and a retry change nothing.
abbrev pub AnswersInSession : State → Call → Reply → State → Type 0
AnswersInSession old call reply new = AnswersBy RunsCall (fate old call) call old reply new
