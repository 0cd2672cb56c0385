-- In a call, the operation whose allocation failed, and which was answered DELAY. When the call is replayed, the
-- allocation of the same operation fails. The results are therefore equal.
use Rattle.std.specs.Prelude.{ℕ, suc, if◌then◌else◌, List, [], ◌∷◌, Option, Some, None, Result}
use Rattle.std.specs.Option.{option_map}
use Rattle.xdr_wire.specs.Reading.{read_at}
use Rattle.xdr_wire.specs.Xdr.{Value}
use Rattle.nfs_types.specs.declared.status.Status.{Status}
use Rattle.nfs_ops.specs.Operations.{Operation}
use Rattle.nfs_ops.specs.Results.{Outcome}
use Rattle.session_slots.specs.declared.session.Begin.{Begin}
use Rattle.session_slots.specs.declared.session.Begin.TheVariants as begins
use Rattle.session_slots.specs.declared.session.NewCall.{NewCall}
use Rattle.compound_run.specs.Compound.{args_form, args_in}
use Rattle.compound_run.specs.Runs.{Given}
use Rattle.compound_run.specs.State.{State, Call}
use Rattle.compound_run.specs.Beginning.{Beginning, Ends, Refuses, Acts, Follows, beginning}
use Rattle.compound_run.specs.InSession.{Reply, RunsAlone, RunsBegun, RunsBy, RunsCall, RunsOf, RunsOnSlot, Sequenced}
use Rattle.compound_run.specs.InSession.{begin_in, sequenced}
use Rattle.compound_run.specs.AnswerOf.{is_delay}

-- the place of the first of these results that is DELAY
abbrev pub delayed_in : List Given → Option ℕ
delayed_in [] = None
delayed_in (given ∷ results) = if is_delay given.outcome then Some 0 else option_map suc (delayed_in results)

abbrev pub delayed_alone : Result Outcome Status → Option ℕ
delayed_alone outcome = if is_delay outcome then Some 0 else None

abbrev pub delayed_on_slot : (old : State) (c : Sequenced) (granted : NewCall) (bytes : List ℕ) (new : State)
    → RunsOnSlot old c granted bytes new → Option ℕ
delayed_on_slot old c granted bytes new (end, (results, runs, answer), left, few) = delayed_in results

abbrev pub delayed_by : (b : Begin) (c : Sequenced) (old : State) (bytes : List ℕ) (new : State)
    → RunsBy b c old bytes new → Option ℕ
delayed_by (begins.New granted) c old bytes new runs = delayed_on_slot old c granted bytes new runs
delayed_by begins.Repeat c old bytes new runs = None
delayed_by (begins.Refused status) c old bytes new runs = None

abbrev pub delayed_only : (call : Call) (tag : List ℕ) (op : Operation) (old : State) (bytes : List ℕ) (new : State)
    → RunsAlone call tag op old bytes new → Option ℕ
delayed_only call tag op old bytes new ((outcome, acts, answer), others) = delayed_alone outcome

abbrev pub delayed_begun : (call : Call) (tag : List ℕ) (count : ℕ) (b : Beginning) (old : State) (bytes : List ℕ)
    (new : State) → RunsBegun call tag count b old bytes new → Option ℕ
delayed_begun call tag count (Ends status) old bytes new runs = None
delayed_begun call tag count (Refuses number status) old bytes new runs = None
delayed_begun call tag count (Acts op) old bytes new runs = delayed_only call tag op old bytes new runs
delayed_begun call tag count (Follows v operations) old bytes new runs =
    delayed_by (begin_in old.realm call count v operations) (sequenced call tag count v operations) old bytes new runs

abbrev pub delayed_of : (call : Call) (a : Option (Value args_form × List ℕ)) (old : State) (reply : Reply)
    (new : State) → RunsOf call a old reply new → Option ℕ
delayed_of call None old reply new runs = None
delayed_of call (Some ((tag, (minor, count)), operations)) old None new runs = None
delayed_of call (Some ((tag, (minor, count)), operations)) old (Some bytes) new runs =
    delayed_begun call tag count (beginning minor count operations) old bytes new runs

-- the operation whose allocation failed in this run of a call: its place after SEQUENCE
unfoldable pub delayed : (call : Call) (old : State) (reply : Reply) (new : State) → RunsCall call old reply new
    → Option ℕ
unfolding RunsCall
delayed call old reply new runs = delayed_of call (args_in (read_at args_form call.arguments)) old reply new runs
