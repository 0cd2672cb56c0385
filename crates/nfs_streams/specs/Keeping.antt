-- A crash at any moment of serving leaves the effects of every call whose reply was written. The exception is a
-- checksum collision.
use Rattle.std.specs.Prelude.{◌≡◌, ◌⊎◌, ℕ, Bool, true, List, [], ◌∷◌, ◌++◌, Option, Some, None, Result, is_ok}
use Rattle.store_journal.specs.Disk.{Act as DiskAct}
use Rattle.store_journal.specs.Journaled.{IsIn}
use Rattle.store_journal.specs.Passage.{Passage, Unchanged}
use Rattle.call_store.specs.declared.fault.StoreFault.{StoreFault}
use Rattle.call_store.specs.declared.store.Store.{Store}
use Rattle.call_store.specs.Keeping.{KeepGives, MarkGives}
use Rattle.call_store.specs.Lasting.{IsLasting}
use Rattle.call_store.specs.Crash.{KeptRepresent}
use Rattle.call_store.specs.Serving.{Serving}
use Rattle.compound_run.specs.State.{State as ServerState}
use Rattle.nfs_hub.specs.declared.hub.Hub.{Hub}
use Rattle.nfs_hub.specs.Machine.{State}
use Rattle.nfs_hub.specs.Hub.{IsHub}
use Rattle.nfs_streams.specs.declared.serving.Limits.{Limits}
use Rattle.nfs_streams.specs.Acts.{Act, OnDisk, Sent, Unwritten}
use Rattle.nfs_streams.specs.Runs.{Runs}

-- the acts on the files of the store
abbrev pub disk_of : List Act → List DiskAct
disk_of [] = []
disk_of (OnDisk act ∷ acts) = act ∷ disk_of acts
disk_of (act ∷ acts) = disk_of acts

-- This act wrote no bytes to a stream. A write that failed may have written some.
abbrev pub IsQuiet : Act → Type 0
IsQuiet (Sent place bytes) = ⊥
IsQuiet (Unwritten place) = ⊥
IsQuiet act = Unit {0}

-- **The state has everything that was done for each reply that was written.** It is the server's state at the end of a
-- run. Or it is the server's state before the last acts of the run, and these wrote no bytes to a stream.
abbrev pub CoversReplies : (limits : Limits) (acts : List Act) (start s : State) → Runs limits acts start s
    → ServerState → Type 0
CoversReplies limits [] start s run t = t ≡ s.served.state
CoversReplies limits (act ∷ acts) start s run t =
    (t ≡ s.served.state) ⊎ (IsQuiet act × CoversReplies limits acts start run.0 run.1 t)

-- Whatever a crash leaves after these acts, a start finds content that represents a state which covers the replies
-- (`CrashLaw` and `OpenLaw` of `call_store`). It never finds a new store (`FinishedLaw`).
pub record Survives (history : List DiskAct) (limits : Limits) (acts : List Act) (start s : State)
    (run : Runs limits acts start s) : Type 0 where
  pub states : List ServerState
  pub represents : KeptRepresent states (disk_of acts ++ history)
  pub covers_replies : (t : ServerState) → IsIn t states → CoversReplies limits acts start s run t

-- `Survives` holds after each of the acts
abbrev pub AlwaysSurvives : List DiskAct → (limits : Limits) (acts : List Act) (start s : State)
    → Runs limits acts start s → Type 0
AlwaysSurvives history limits [] start s run = Survives history limits [] start s run
AlwaysSurvives history limits (act ∷ acts) start s run =
    Survives history limits (act ∷ acts) start s run × AlwaysSurvives history limits acts start run.0 run.1

-- with a store, `AlwaysSurvives` holds
abbrev pub SurvivesIn : Option Store → List DiskAct → (limits : Limits) (acts : List Act) (start s : State)
    → Runs limits acts start s → Type 0
SurvivesIn None history limits acts start s run = Unit {0}
SurvivesIn (Some store) history limits acts start s run = AlwaysSurvives history limits acts start s run

-- The store with which serving begins. After this history it keeps the state of the hub's server. The hub keeps a log,
-- which is empty. Its sessions are in use, and persistent.
pub record ServesOpen {A : Type 0} (history : List DiskAct) (store : Store) (hub : Hub A) : Type 0 where
  pub serving : Serving store hub.service.state history
  pub logs : hub.service.log ≡ Some []
  pub sessions : hub.service.in_sessions ≡ true
  pub lasting : IsLasting hub.service.state

-- with a store, `ServesOpen` holds of it
abbrev pub IsOpen : {A : Type 0} → Option Store → List DiskAct → Hub A → Type 0
IsOpen None history hub = Unit {0}
IsOpen (Some store) history hub = ServesOpen history store hub

-- The events that the hub has logged are kept, with a store and a log.
abbrev pub KeepsLog : {A D : Type 0} → Passage D → Hub A → Option Store → Bool → Option Store → Type 0
KeepsLog p hub None result None = (result ≡ true) × Unchanged p
KeepsLog p hub None result (Some store') = ⊥
KeepsLog p hub (Some store) result None = ⊥
KeepsLog p hub (Some store) result (Some store') =
    (s : State) → IsHub hub s → (log : List ℕ) → s.served.log ≡ Some log
    → (done : Result (Unit {0}) StoreFault) × (result ≡ is_ok done)
    × KeepGives p store log s.served.state done store'

-- A mark is appended to the store, if any.
abbrev pub MarksStore : {D : Type 0} → Passage D → Option Store → Bool → Option Store → Type 0
MarksStore p None result None = (result ≡ true) × Unchanged p
MarksStore p None result (Some store') = ⊥
MarksStore p (Some store) result None = ⊥
MarksStore p (Some store) result (Some store') =
    (done : Result (Unit {0}) StoreFault) × (result ≡ is_ok done) × MarkGives p store done store'
