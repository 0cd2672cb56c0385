-- The content of a store after a crash, at any moment.
use Rattle.std.specs.Prelude.{◌≡◌, ◌≢◌, ◌⊎◌, ℕ, List, [], ◌∷◌, Option, Some, None, Ok}
use Rattle.store_journal.specs.declared.current.Current.{Current}
use Rattle.store_journal.specs.declared.disk.Slot.TheVariants.{A, B}
use Rattle.store_journal.specs.declared.writing.Position.{Position}
use Rattle.store_journal.specs.Current.{current_in}
use Rattle.store_journal.specs.Disk.{Bytes, Act, Turned, other, on_disk, on_current, MayLeave, MayRead}
use Rattle.store_journal.specs.Files.{Content}
use Rattle.store_journal.specs.Journaled.{Log, IsIn, IsJournal, HasAll, HasCollision, at_begun, in_slot}
use Rattle.store_journal.specs.Opening.{Chooses, IsCorrupt}
use Rattle.compound_run.specs.State.{State}
use Rattle.call_store.specs.Machine.{IsOwn}
use Rattle.call_store.specs.Representing.{Represents}

-- every content that a start may find of a log represents one of these states, and has no entries of another machine
pub record Keeps (states : List State) (log : Log) (content : Content) : Type 0 where
  pub own : IsOwn log.current.machine content
  pub state : State
  pub of_these : IsIn state states
  pub represents : Represents content state

-- two logs are in different files
abbrev pub AreOpposite : Option Log → Option Log → Type 0
AreOpposite None b = Unit {0}
AreOpposite (Some a) None = Unit {0}
AreOpposite (Some a) (Some b) = a.current.slot ≡ other b.current.slot

-- the logs are one, or two in different files
abbrev pub AreFew : List (Option Log) → Type 0
AreFew [] = ⊥
AreFew (log ∷ []) = Unit {0}
AreFew (a ∷ b ∷ []) = AreOpposite a b
AreFew (a ∷ b ∷ c ∷ logs) = ⊥

-- **After these acts one of these logs is active. Every content that a start may find of it represents one of these
-- states.** The log is `None` if no checkpoint was finished yet.
pub record LogsRepresent (states : List State) (logs : List (Option Log)) (acts : List Act) : Type 0 where
  pub journal : IsJournal logs acts
  pub few : AreFew logs
  pub each : (log : Log) (content : Content) → IsIn (Some log) logs → HasAll log (Some content)
      → Keeps states log content

-- the content that is chosen from the file represents one of these states, and the file isn't refused as corrupt; the
-- exception is a checksum collision
pub record Survives (states : List State) (log : Log) (c : Current) (file : Bytes) : Type 0 where
  pub chosen : (content : Option Content) (position : Position) (at : ℕ) (bytes : Bytes)
      → Chooses c file content position at bytes
      → ((x : Content) × (content ≡ Some x) × Keeps states log x) ⊎ HasCollision log file
  pub sound : IsCorrupt c file → HasCollision log file

-- CURRENT is intact. If no checkpoint was finished yet, CURRENT states that or is missing.
abbrev pub Leaves : List State → Option Log → Option Bytes → Bytes → Bytes → Type 0
Leaves states None None a b = (a ≡ []) × (b ≡ [])
Leaves states None (Some bytes) a b = (c : Current) × (current_in bytes ≡ Ok c) × (c.generation ≡ 0)
Leaves states (Some log) None a b = ⊥
Leaves states (Some log) (Some bytes) a b =
    (begun : ℕ) × (current_in bytes ≡ Ok (at_begun log.current begun))
    × Survives states log (at_begun log.current begun) (in_slot log.current.slot a b)

pub record LeavesOne (states : List State) (logs : List (Option Log)) (found : Option Bytes) (a b : Bytes)
    : Type 0 where
  pub log : Option Log
  pub of_these : IsIn log logs
  pub leaves : Leaves states log found a b

-- **Whatever a crash leaves, a start finds content that represents one of these states.**
abbrev pub CrashLaw : Type 0
CrashLaw =
    (states : List State) (logs : List (Option Log)) (acts : List Act) → LogsRepresent states logs acts
    → (found : Option Bytes) → MayRead (on_current acts) found
    → (a b : Bytes) → MayLeave (on_disk A acts) a → MayLeave (on_disk B acts) b → LeavesOne states logs found a b

-- **Some logs represent these states.** `None` is among them only if it was among those before. A finished checkpoint
-- is therefore never abandoned.
abbrev pub RepresentAfter : List (Option Log) → List State → List Act → Type 0
RepresentAfter before states acts =
    (logs : List (Option Log)) × LogsRepresent states logs acts × (IsIn None logs → IsIn None before)

-- some logs represent these states, and each of them has a checkpoint
abbrev pub KeptRepresent : List State → List Act → Type 0
KeptRepresent states acts = RepresentAfter [] states acts

-- CURRENT records that a checkpoint was finished
pub record IsFinished (found : Option Bytes) : Type 0 where
  pub bytes : Bytes
  pub found_is : found ≡ Some bytes
  pub current : Current
  pub states : current_in bytes ≡ Ok current
  pub finished : current.generation ≢ 0

-- **A store that is kept is never taken for a new one**, whatever a crash leaves of CURRENT.
abbrev pub FinishedLaw : Type 0
FinishedLaw =
    (states : List State) (acts : List Act) → KeptRepresent states acts
    → (found : Option Bytes) → MayRead (on_current acts) found → IsFinished found

-- if CURRENT is replaced by one without a finished checkpoint, nothing is kept
abbrev pub WipedLaw : Type 0
WipedLaw =
    (states : List State) (acts : List Act) (bytes : Bytes) (c : Current)
    → current_in bytes ≡ Ok c → c.generation ≡ 0 → KeptRepresent states (Turned bytes ∷ acts) → ⊥

-- logs that represent some states also represent each list that has these states
abbrev pub MoreLaw : Type 0
MoreLaw =
    (states others : List State) (logs : List (Option Log)) (acts : List Act)
    → ((s : State) → IsIn s states → IsIn s others) → LogsRepresent states logs acts → LogsRepresent others logs acts

-- in a folder in which nothing was ever done no checkpoint was finished yet
abbrev pub EmptyLaw : Type 0
EmptyLaw = (states : List State) → LogsRepresent states (None ∷ []) []
