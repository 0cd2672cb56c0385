-- A connection of the code and a connection of the machine.
use Rattle.std.specs.Prelude.{◌≡◌, ◌≤◌, ◌⊎◌, ℕ, Bool, List, false, ◌++◌, length, take, Option, Some, None}
use Rattle.std.specs.Prelude.{IsSome, MatchOption, Result, Ok, Err}
use Rattle.nfs_types.specs.declared.moment.Moment.{Moment}
use Rattle.rpc_record.specs.Framer.{HasRead}
use Rattle.nfs_hub.specs.declared.connection.Connection.{Connection}
use Rattle.nfs_hub.specs.declared.connection.ConnectionFault.{ConnectionFault}
use Rattle.nfs_hub.specs.declared.connection.ConnectionFault.TheVariants.{Broken, Memory}
use Rattle.rpc_record.specs.declared.reply.Reply.{Reply}
use Rattle.rpc_record.specs.declared.reply.Reply.TheVariants.{Success, GarbageArgs}
use Rattle.compound_run.specs.declared.server.RunEnd.{RunEnd}
use Rattle.compound_run.specs.declared.server.RunEnd.TheVariants as end
use Rattle.compound_run.specs.declared.kept.Ran.{Ran}
use Rattle.compound_run.specs.Limits.{MAX_RESULTS}
use Rattle.compound_run.specs.State.{State, Call, with_book}
use Rattle.who_book.specs.Content.{Content}
use Rattle.access_guard.specs.Epochs.{next_epoch}
use Rattle.xdr_wire.specs.Buffer.{Buffer, Appends}
use Rattle.nfs_hub.specs.declared.fault.HubFault.TheVariants as hub_fault
use Rattle.nfs_hub.specs.declared.fault.Unloaded.{Unloaded}
use Rattle.nfs_hub.specs.Answer.{Arrival, Served, Replied, Broke, RecordEnds, AnswersAs, AnswersServed, compound_reply}
use Rattle.nfs_hub.specs.Machine.{ReachedBreak, Stopped, IsPrefix, fragment}
use Rattle.nfs_hub.specs.Connection.{HasReached, Read_at}

-- The pending bytes after a record is answered. Either a reply goes after them, or the record breaks the
-- connection, or an allocation fails and the record isn't answered. In the last two cases nothing has
-- changed.
abbrev pub AnswerGives : Result (Unit {0}) ConnectionFault → Served → Served → Moment → List ℕ → List ℕ → List ℕ
    → Type 0
AnswerGives (Ok done) old new now asked pending pending' =
    (reply : List ℕ) × RecordEnds old now asked (Replied reply) new × (pending' ≡ pending ++ fragment reply)
AnswerGives (Err Broken) old new now asked pending pending' =
    RecordEnds old now asked Broke new × (pending' ≡ pending) × (new ≡ old)
AnswerGives (Err Memory) old new now asked pending pending' = (new ≡ old) × (pending' ≡ pending)

-- a reply goes after the pending bytes, or an allocation fails
abbrev pub Sends : Result (Unit {0}) ConnectionFault → List ℕ → List ℕ → List ℕ → Type 0
Sends (Ok done) reply pending pending' = pending' ≡ pending ++ fragment reply
Sends (Err Memory) reply pending pending' = pending' ≡ pending
Sends (Err Broken) reply pending pending' = ⊥

-- the header of the reply to a COMPOUND by its end
abbrev pub reply_of : RunEnd → Reply
reply_of end.Replied = Success
reply_of end.Garbage = GarbageArgs

-- A COMPOUND is answered, and its reply goes after the pending bytes; or an allocation fails, and it isn't
-- run.
abbrev pub CompoundGives : Result (Unit {0}) ConnectionFault → ℕ → Arrival → Served → Call → Served → List ℕ
    → List ℕ → Type 0
CompoundGives (Ok done) xid a old call new pending pending' =
    (results : Option (List ℕ)) × AnswersServed a old call results new
    × (pending' ≡ pending ++ fragment (compound_reply xid results))
CompoundGives (Err Memory) xid a old call new pending pending' = (new ≡ old) × (pending' ≡ pending)
CompoundGives (Err Broken) xid a old call new pending pending' = ⊥

-- The results of a COMPOUND, with the facts that its log entry needs, are put after the buffer's bytes, and
-- are within the limit of a reply; or no results exist.
abbrev pub RunsAs : Bool → State → Call → Option Ran → Buffer → Buffer → State → Type 0
RunsAs in_sessions old call (Some ran) before after new =
    (results : List ℕ) × AnswersAs in_sessions old call (Some results) ran new × Appends before after results
    × (length results ≤ MAX_RESULTS)
RunsAs in_sessions old call None before after new =
    AnswersAs in_sessions old call None (record { kept = false; delayed = None }) new × (after ≡ before)

-- A book is loaded, and the previous one is given back. Or the new one is given back: because no next epoch
-- is left, or because a log is kept and the allocation for the entry fails.
abbrev pub ReloadEnds : Content → Result Content Unloaded → Served → Served → Type 0
ReloadEnds book result old new =
    (IsSome old.log × (result ≡ Err (record { fault = hub_fault.Memory; book = book })) × (new ≡ old))
    ⊎ MatchOption (next_epoch old.state.settings.epoch)
    ((result ≡ Err (record { fault = hub_fault.Exhausted; book = book })) × (new ≡ old))
    (λ epoch. (result ≡ Ok old.state.settings.book) × (new.state ≡ with_book book old.state))

-- with any rest that it holds, the connection takes the piece to its end, or to the break
abbrev pub FeedGives : {A : Type 0} → Result (Unit {0}) ConnectionFault → Connection A → Connection A → Served
    → Served → Read_at → Type 0
FeedGives (Ok done) old new served served' piece =
    (rest : List ℕ) → HasRead old.framer old.content.items rest
    → HasReached piece.1 served old.pending.bytes (rest ++ piece.0) served' new
FeedGives (Err Broken) old new served served' piece =
    (rest : List ℕ) → HasRead old.framer old.content.items rest
    → ReachedBreak piece.1 served old.pending.bytes (rest ++ piece.0) served' new.pending.bytes
FeedGives (Err Memory) old new served served' piece =
    (rest : List ℕ) → HasRead old.framer old.content.items rest
    → Stopped piece.1 served old.pending.bytes (rest ++ piece.0) served' new.pending.bytes

-- With any rest that it holds, the connection takes the piece to the end of its first record, or to the piece's end if
-- no record ends in it. Or the connection breaks, and nothing is answered.
abbrev pub RecordGives : {A : Type 0} → Result ℕ ConnectionFault → Connection A → Connection A → Served → Served
    → Read_at → Type 0
RecordGives (Ok n) old new served served' piece =
    (rest : List ℕ) → HasRead old.framer old.content.items rest
    → HasReached piece.1 served old.pending.bytes (rest ++ take n piece.0) served' new
    × IsPrefix n rest piece.0 served old.pending.bytes served' new.pending.bytes
RecordGives (Err Broken) old new served served' piece =
    ((rest : List ℕ) → HasRead old.framer old.content.items rest
    → ReachedBreak piece.1 served old.pending.bytes (rest ++ piece.0) served' new.pending.bytes)
    × (served' ≡ served) × (new.pending.bytes ≡ old.pending.bytes)
RecordGives (Err Memory) old new served served' piece =
    ((rest : List ℕ) → HasRead old.framer old.content.items rest
    → Stopped piece.1 served old.pending.bytes (rest ++ piece.0) served' new.pending.bytes)
    × (served' ≡ served) × (new.pending.bytes ≡ old.pending.bytes)
