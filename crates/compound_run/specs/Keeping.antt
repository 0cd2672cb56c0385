-- The calls that a server logs, to replay them after a restart (RFC 8881, section 2.10.6.5). A call is logged in three
-- cases. One of its operations that can change state was OK. It created, changed or removed a client or a session. Or
-- it took the sequence ID of its slot past a multiple of 2^20. A call that isn't logged has changed nothing but its
-- slot.
use Rattle.std.specs.Prelude.{ℕ, ◌==◌, ◌&&◌, ◌||◌, Bool, true, false, List, [], ◌∷◌, Option, Some, None}
use Rattle.std.specs.Prelude.{Result, Ok, Err}
use Rattle.std.specs.List.{list_any}
use Rattle.xdr_wire.specs.Reading.{read_at}
use Rattle.xdr_wire.specs.Xdr.{Value}
use Rattle.nfs_types.specs.declared.status.Status.{Status}
use Rattle.nfs_ops.specs.Operations.{Operation, Known}
use Rattle.nfs_ops.specs.Parts.{sequence_session, sequence_number, sequence_slot}
use Rattle.nfs_ops.specs.Results.{Outcome}
use Rattle.nfs_ops.specs.Rows.{row}
use Rattle.nfs_ops.specs.declared.OpKind.{OpKind}
use Rattle.nfs_ops.specs.declared.OpKind.TheVariants as kinds
use Rattle.session_slots.specs.declared.session.Begin.{Begin}
use Rattle.session_slots.specs.declared.session.Begin.TheVariants as begins
use Rattle.session_slots.specs.declared.session.NewCall.{NewCall}
use Rattle.session_slots.specs.Keeping.{last_at, passes}
use Rattle.session_slots.specs.Orderly.{is_cached_refusal}
use Rattle.compound_run.specs.Compound.{args_form, args_in}
use Rattle.compound_run.specs.Runs.{Given}
use Rattle.compound_run.specs.State.{State, Call}
use Rattle.compound_run.specs.Sessions.{session_of}
use Rattle.compound_run.specs.Beginning.{Beginning, Ends, Refuses, Acts, Follows, beginning}
use Rattle.compound_run.specs.InSession.{Reply, RunsAlone, RunsBegun, RunsBy, RunsCall, RunsOf, RunsOnSlot, Sequenced}
use Rattle.compound_run.specs.InSession.{begin_in, sequenced}

-- ---- operations after a SEQUENCE

-- the operations that can change state when they are OK
abbrev pub changing : List OpKind
changing =
    kinds.Close ∷ kinds.Create ∷ kinds.Link ∷ kinds.Open ∷ kinds.Remove ∷ kinds.Rename ∷ kinds.SetAttr ∷ kinds.Write
    ∷ kinds.ReclaimComplete ∷ []

abbrev pub is_changing : ℕ → Bool
is_changing number = list_any (λ k. number == (row k).number) changing

abbrev pub is_done : Result Outcome Status → Bool
is_done (Ok outcome) = true
is_done (Err status) = false

abbrev pub is_change : Given → Bool
is_change given = is_done given.outcome && is_changing given.number

abbrev pub keeps_on_slot : (old : State) (c : Sequenced) (granted : NewCall) (bytes : List ℕ) (new : State)
    → RunsOnSlot old c granted bytes new → Bool
keeps_on_slot old c granted bytes new (end, (results, runs, answer), left, few) =
    list_any is_change results
    || passes (last_at old.realm.registry (session_of (sequence_session c.sequence)) (sequence_slot c.sequence))
    (sequence_number c.sequence)

-- ---- operations that are the only one of their COMPOUND

abbrev pub keeps_alone : Operation → Result Outcome Status → Bool
keeps_alone op (Ok outcome) = true
keeps_alone (Known kinds.CreateSession v) (Err status) = is_cached_refusal status
keeps_alone op (Err status) = false

-- ---- a call that is run

abbrev pub keeps_by : (b : Begin) (c : Sequenced) (old : State) (bytes : List ℕ) (new : State)
    → RunsBy b c old bytes new → Bool
keeps_by (begins.New granted) c old bytes new runs = keeps_on_slot old c granted bytes new runs
keeps_by begins.Repeat c old bytes new runs = false
keeps_by (begins.Refused status) c old bytes new runs = false

abbrev pub keeps_only : (call : Call) (tag : List ℕ) (op : Operation) (old : State) (bytes : List ℕ) (new : State)
    → RunsAlone call tag op old bytes new → Bool
keeps_only call tag op old bytes new ((outcome, acts, answer), others) = keeps_alone op outcome

abbrev pub keeps_begun : (call : Call) (tag : List ℕ) (count : ℕ) (b : Beginning) (old : State) (bytes : List ℕ)
    (new : State) → RunsBegun call tag count b old bytes new → Bool
keeps_begun call tag count (Ends status) old bytes new runs = false
keeps_begun call tag count (Refuses number status) old bytes new runs = false
keeps_begun call tag count (Acts op) old bytes new runs = keeps_only call tag op old bytes new runs
keeps_begun call tag count (Follows v operations) old bytes new runs =
    keeps_by (begin_in old.realm call count v operations) (sequenced call tag count v operations) old bytes new runs

abbrev pub keeps_of : (call : Call) (a : Option (Value args_form × List ℕ)) (old : State) (reply : Reply) (new : State)
    → RunsOf call a old reply new → Bool
keeps_of call None old reply new runs = false
keeps_of call (Some ((tag, (minor, count)), operations)) old None new runs = false
keeps_of call (Some ((tag, (minor, count)), operations)) old (Some bytes) new runs =
    keeps_begun call tag count (beginning minor count operations) old bytes new runs

-- whether this run of a call is logged
unfoldable pub keeps : (call : Call) (old : State) (reply : Reply) (new : State) → RunsCall call old reply new → Bool
unfolding RunsCall
keeps call old reply new runs = keeps_of call (args_in (read_at args_form call.arguments)) old reply new runs
