-- A logged call is replayed when a server starts (RFC 8881, section 2.10.6.5). Its slot lags, since it may have
-- accepted earlier calls that weren't logged. The call is new if its sequence ID is 1 to 2^20 ahead.
use Rattle.std.specs.Prelude.{◌≡◌, ◌<◌, ◌^◌, ℕ, List, Option, Some, None}
use Rattle.xdr_wire.specs.Reading.{read_at}
use Rattle.xdr_wire.specs.Xdr.{Value}
use Rattle.nfs_ops.specs.Parts.{sequence_session, sequence_number, sequence_slot}
use Rattle.session_slots.specs.Retrying.{Runs}
use Rattle.session_slots.specs.Covering.{lagging_at}
use Rattle.compound_run.specs.Compound.{args_form, args_in}
use Rattle.compound_run.specs.State.{State, Call}
use Rattle.compound_run.specs.Sessions.{session_of}
use Rattle.compound_run.specs.Beginning.{Beginning, Ends, Refuses, Acts, Follows, beginning}
use Rattle.compound_run.specs.InSession.{Reply, RunsCall, fate, in_registry}

abbrev pub ready_for : Beginning → State → State
ready_for (Ends status) s = s
ready_for (Refuses number status) s = s
ready_for (Acts op) s = s
ready_for (Follows v operations) s =
    in_registry (lagging_at (session_of (sequence_session v)) (sequence_slot v) s.realm.registry) s

abbrev pub ready_of : Option (Value args_form × List ℕ) → State → State
ready_of None s = s
ready_of (Some ((tag, (minor, count)), operations)) s = ready_for (beginning minor count operations) s

-- the state in which a call is replayed: the slot of its SEQUENCE lags
unfoldable pub ready : Call → State → State
ready call s = ready_of (args_in (read_at args_form call.arguments)) s

-- a call is new in this state, and runs again
pub record Replays (call : Call) (old : State) (reply : Reply) (new : State) : Type 0 where
  pub fate : fate (ready call old) call ≡ Runs
  pub runs : RunsCall call (ready call old) reply new

-- ---- the sequence ID that a call encodes is a number of 32 bits

abbrev pub IsNumberedFor : Beginning → Type 0
IsNumberedFor (Ends status) = Unit {0}
IsNumberedFor (Refuses number status) = Unit {0}
IsNumberedFor (Acts op) = Unit {0}
IsNumberedFor (Follows v operations) = sequence_number v < 2 ^ 32

abbrev pub IsNumberedOf : Option (Value args_form × List ℕ) → Type 0
IsNumberedOf None = Unit {0}
IsNumberedOf (Some ((tag, (minor, count)), operations)) = IsNumberedFor (beginning minor count operations)

unfoldable pub IsNumbered : Call → Type 0
IsNumbered call = IsNumberedOf (args_in (read_at args_form call.arguments))
