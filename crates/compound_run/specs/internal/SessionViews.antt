-- The sessions of the code, as the definitions see them.
use Rattle.std.specs.Prelude.{◌≤◌, ℕ, ◌+◌, ◌++◌, Bool, List, length, Option, Some}
use Rattle.std.specs.Prelude.{Ok}
use Rattle.xdr_wire.specs.Buffer.{Buffer, Appends}
use Rattle.xdr_wire.specs.Xdr.{Value}
use Rattle.who_book.specs.Content.{Content}
use Rattle.who_book.specs.Members.{member}
use Rattle.nfs_ops.specs.Forms.{sequence_args}
use Rattle.nfs_ops.specs.Results.{Done}
use Rattle.nfs_ops.specs.Rows.{row}
use Rattle.nfs_ops.specs.declared.sequence.SequenceResult.{SequenceResult}
use Rattle.nfs_ops.specs.Views.{sequence_args_value, sequence_result_value}
use Rattle.nfs_ops.specs.declared.OpKind.TheVariants as kinds
use Rattle.session_slots.specs.declared.session.NewCall.{NewCall}
use Rattle.compound_run.specs.declared.in_session.IncomingCall.{IncomingCall}
use Rattle.compound_run.specs.declared.first_operation.Beginning as code
use Rattle.compound_run.specs.declared.compound.Ended.{Ended}
use Rattle.compound_run.specs.declared.kept.Ran.{Ran}
use Rattle.compound_run.specs.declared.realm.Realm as realms
use Rattle.compound_run.specs.Realm.{Realm}
use Rattle.compound_run.specs.Context.{Context}
use Rattle.compound_run.specs.Runs.{Given}
use Rattle.compound_run.specs.Compound.{Series, head}
use Rattle.compound_run.specs.Views.{Stage}
use Rattle.compound_run.specs.Beginning.{Beginning, Ends, Refuses, Acts, Follows}
use Rattle.compound_run.specs.State.{State}
use Rattle.compound_run.specs.Sequence.{calling_by, room_after_sequence}
use Rattle.compound_run.specs.InSession.{begin_in, fate_by}
use Rattle.compound_run.specs.InSession.{sequenced}
use Rattle.compound_run.specs.internal.Delaying.{RanByDelaying}
use Rattle.compound_run.specs.SessionViews.{AnswersAs, SequencedGives, call_of, lone_view}

abbrev pub beginning_view : code.Beginning → Beginning
beginning_view (code.TheVariants.Ends status) = Ends status
beginning_view (code.TheVariants.Refuses number status) = Refuses number status
beginning_view (code.TheVariants.Acts lone) = Acts (lone_view lone)
beginning_view (code.TheVariants.Follows a rest) = Follows (sequence_args_value a) rest.now

-- These bytes are appended to the buffer, and are within the limit.
abbrev pub Writes : ℕ → List ℕ → Buffer → Buffer → Type 0
Writes limit bytes before after = Appends before after bytes × (length bytes ≤ limit)

-- The results are appended to the buffer. After a head they are the answer.
abbrev pub AppendsSequenced : {A : Type 0} → ℕ → Option ℕ → Series → Given → Stage (realms.Realm A) → Ended
    → Stage (realms.Realm A) → Type 0
AppendsSequenced most refused s given old end new =
    (results : List ℕ) × SequencedGives refused s given old.at (head end.status s.tag end.ran ++ results) end new.at
    × Appends old.out new.out results × (length new.out.bytes ≤ most)

-- the result of SEQUENCE
abbrev pub sequence_outcome : SequenceResult → Given
sequence_outcome r =
    record { number = (row kinds.Sequence).number; outcome = Ok (Done kinds.Sequence (sequence_result_value r)) }

-- the context of the first operation after a SEQUENCE
abbrev pub context_after_sequence : Content → (times : Bool) → IncomingCall → Value sequence_args → NewCall → Context
context_after_sequence book times c v new = record {
  caller = member book c.caller.now;
  now = c.now;
  book = book;
  times = times;
  calling = Some (calling_by v new);
  position = 1;
  count = c.compound.count;
  room = room_after_sequence c.compound.tag.now v new;
}

-- a COMPOUND that begins with this SEQUENCE
abbrev pub AnswersSequence : IncomingCall → Value sequence_args → List ℕ → State → List ℕ → Ran → State → Type 0
AnswersSequence c v operations old bytes ran new =
    let begin = begin_in old.realm (call_of c) c.compound.count v operations in
    AnswersAs (fate_by c.compound.tag.now v old.realm.registry begin)
    (RanByDelaying c.refused begin (sequenced (call_of c) c.compound.tag.now c.compound.count v operations) old) old
    bytes ran new
