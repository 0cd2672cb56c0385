-- An entry of a log is replayed in a server that starts (RFC 8881, section 2.10.6.5).
use Rattle.std.specs.Prelude.{◌≡◌, ◌≢◌, ◌⊎◌, ℕ, true, false, List, Option, Some, None, IsSome, MatchOption}
use Rattle.std.specs.Prelude.{Result, Ok, Err}
use Rattle.rpc_record.specs.Call.{CallResult, asked}
use Rattle.who_book.specs.Content.{Content}
use Rattle.who_book.specs.Document.{book_from}
use Rattle.who_book.specs.declared.fault.BookFault.{BookFault}
use Rattle.access_guard.specs.Epochs.{next_epoch}
use Rattle.session_slots.specs.Registry.{client_at}
use Rattle.log_entries.specs.Checksum.{results_checksum}
use Rattle.log_entries.specs.Entries.{Called, Entry, Call, ClientExpired, Loaded}
use Rattle.compound_run.specs.declared.kept.Ran.{Ran}
use Rattle.compound_run.specs.Delaying.{AnswersDelaying}
use Rattle.compound_run.specs.Recorded.{Answers}
use Rattle.compound_run.specs.Replaying.{IsNumbered, ready}
use Rattle.compound_run.specs.State.{State, with_book, without_client}
use Rattle.compound_run.specs.State.{Call as ServerCall}
use Rattle.nfs_hub.specs.Answer.{Arrival, IsText, call_of}
use Rattle.nfs_hub.specs.declared.restart.ReplayFault.{ReplayFault}
use Rattle.nfs_hub.specs.declared.restart.ReplayFault.TheVariants.{Differs, Memory}

-- ---- a call

-- the record of a logged call, and its moment
abbrev pub arrival_in : Called → Arrival
arrival_in c = record { now = c.now; bytes = c.bytes }

-- The end of a replay, by the result of the call. Ok: its results are those that were logged. Memory: an
-- allocation failed for another operation than the logged one. Differs: the result differs in any other way.
abbrev pub Judges : Called → Option Ran → List ℕ → Result (Unit {0}) ReplayFault → Type 0
Judges c None results result = result ≡ Err Differs
Judges c (Some ran) results (Ok done) =
    (ran.kept ≡ true) × (ran.delayed ≡ c.delayed) × (results_checksum results ≡ c.checksum)
Judges c (Some ran) results (Err Memory) = IsSome ran.delayed × (ran.delayed ≢ c.delayed)
Judges c (Some ran) results (Err Differs) =
    ((ran.delayed ≡ c.delayed) ⊎ (ran.delayed ≡ None))
    × ((ran.kept ≡ false) ⊎ ((ran.delayed ≢ c.delayed) ⊎ (results_checksum results ≢ c.checksum)))

-- A call is run again over a slot that lags, and the logged operation is refused memory. None: it has no
-- results.
abbrev pub RunsAgain : Option ℕ → ServerCall → State → Option Ran → List ℕ → State → Type 0
RunsAgain delayed call old (Some ran) results new =
    AnswersDelaying delayed (ready call old) call (Some results) ran new
RunsAgain delayed call old None results new =
    Answers (ready call old) call None (record { kept = false; delayed = None }) new

-- A call that is run again. The bytes of a sequence ID encode a number of 32 bits.
abbrev pub CallEnds : Result (Unit {0}) ReplayFault → Called → ServerCall → State → State → Type 0
CallEnds result c call old new =
    IsNumbered call × (ran : Option Ran) × (results : List ℕ) × RunsAgain c.delayed call old ran results new
    × Judges c ran results result

-- the entry has no valid call, client or epoch: the replay returns Differs, and nothing changes
abbrev pub Strays : Result (Unit {0}) ReplayFault → State → State → Type 0
Strays result old new = (result ≡ Err Differs) × (new ≡ old)

abbrev pub AskedEnds : Result (Unit {0}) ReplayFault → Called → CallResult → State → State → Type 0
AskedEnds result c (Ok call) old new =
    MatchOption call.caller (Strays result old new)
    (λ caller. CallEnds result c (call_of (arrival_in c) call.arguments caller) old new)
AskedEnds result c (Err fault) old new = Strays result old new

-- ---- a book

-- it is loaded if an epoch is left for it
abbrev pub BookEnds : Result (Unit {0}) ReplayFault → Result Content BookFault → State → State → Type 0
BookEnds result (Ok book) old new =
    MatchOption (next_epoch old.settings.epoch) (Strays result old new)
    (λ epoch. (result ≡ Ok tt) × (new ≡ with_book book old))
BookEnds result (Err fault) old new = Strays result old new

abbrev pub TextEnds : Result (Unit {0}) ReplayFault → Option (List ℕ) → State → State → Type 0
TextEnds result text old new =
    ((result ≡ Err Memory) × (new ≡ old)) ⊎ ((¬ (IsText text)) × Strays result old new)
    ⊎ (IsText text × BookEnds result (book_from text) old new)

-- ---- an entry

-- the end of a replay of this entry
abbrev pub ReplayEnds : Result (Unit {0}) ReplayFault → Entry → State → State → Type 0
ReplayEnds result (Call c) old new = AskedEnds result c (asked c.bytes) old new
ReplayEnds result (ClientExpired client) old new =
    MatchOption (client_at old.realm.registry client) (Strays result old new)
    (λ clients. (result ≡ Ok tt) × (new ≡ without_client client old))
ReplayEnds result (Loaded text) old new = TextEnds result text old new

-- an entry is replayed
abbrev pub Replays : Entry → State → State → Type 0
Replays entry old new = ReplayEnds (Ok tt) entry old new
