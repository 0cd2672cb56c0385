-- A store is opened: CURRENT and its file are read, a start replays to a state, and the journal is resumed.
use Rattle.std.specs.Prelude.{◌≡◌, ◌≢◌, ◌⊎◌, ℕ, [], Option, Some, None, Result, Ok, Err}
use Rattle.store_journal.specs.declared.current.Current.{Current}
use Rattle.store_journal.specs.declared.fault.JournalFault.{JournalFault}
use Rattle.store_journal.specs.declared.fault.JournalFault.TheVariants as journal
use Rattle.store_journal.specs.declared.fault.OpenFault.{OpenFault}
use Rattle.store_journal.specs.declared.fault.OpenFault.TheVariants as loading
use Rattle.store_journal.specs.declared.writing.Position.{Position}
use Rattle.store_journal.specs.Disk.{Bytes}
use Rattle.store_journal.specs.Files.{Content}
use Rattle.store_journal.specs.Keeping.{ResumeGives}
use Rattle.store_journal.specs.Opening.{LoadGives, LoadFails, Chooses, RefusedFor}
use Rattle.store_journal.specs.Passage.{Passage, Unchanged, passage}
use Rattle.compound_run.specs.State.{State}
use Rattle.call_store.specs.declared.fault.Corruption.TheVariants.{Journal}
use Rattle.call_store.specs.declared.fault.StoreFault.{StoreFault}
use Rattle.call_store.specs.declared.fault.StoreFault.TheVariants.{Failed, Version, Corrupt, Memory, Full}
use Rattle.call_store.specs.declared.opening.Opened.{Opened}
use Rattle.call_store.specs.declared.opening.Opened.TheVariants.{New, Kept}
use Rattle.call_store.specs.declared.store.Store.{Store}
use Rattle.call_store.specs.Sizes.{resumed_store}
use Rattle.call_store.specs.Stopping.{StartGives}

-- ---- faults

abbrev pub fault_of_load : OpenFault → StoreFault
fault_of_load loading.Failed = Failed
fault_of_load loading.Version = Version
fault_of_load loading.Corrupt = Corrupt Journal
fault_of_load loading.Memory = Memory

abbrev pub fault_of_journal : JournalFault → StoreFault
fault_of_journal journal.TooLong = Full
fault_of_journal journal.Memory = Memory
fault_of_journal journal.Full = Full
fault_of_journal journal.NoCheckpoint = Full
fault_of_journal journal.Failed = Failed

-- ---- the found content

-- CURRENT, the content of its file, where the next frame goes, and the last frame with its place
pub record Sight : Type 0 where
  pub current : Current
  pub content : Content
  pub position : Position
  pub last_at : ℕ
  pub last : Bytes

-- CURRENT names a file with a checkpoint, which was read
pub record Sees {D : Type 0} (p : Passage D) (x : Sight) : Type 0 where
  pub file : Bytes
  pub loads : LoadGives p (Some x.current) file
  pub some : x.current.generation ≢ 0
  pub chooses : Chooses x.current file (Some x.content) x.position x.last_at x.last

-- CURRENT names a file that can't be used, for this reason
pub record Misses {D : Type 0} (p : Passage D) (why : OpenFault) : Type 0 where
  pub current : Current
  pub file : Bytes
  pub loads : LoadGives p (Some current) file
  pub some : current.generation ≢ 0
  pub refuses : RefusedFor current file why

-- ---- continuing

-- A start replayed to a state, and the journal wasn't resumed, for this reason.
pub record Halts {D : Type 0} (p : Passage D) (x : Sight) (fault : StoreFault) : Type 0 where
  pub state : State
  pub starts : StartGives x.current.machine x.content (Ok state)
  pub why : JournalFault
  pub fault_is : fault ≡ fault_of_journal why
  pub resumes : ResumeGives p x.current x.position x.last_at x.last (Err why)

-- the state of a store when it is opened
pub data Ending : Type 0 where
  -- no checkpoint was finished yet: CURRENT doesn't exist, or it is this one
  IsNew : Option Current → Ending
  -- a store with the state to which a start replayed
  Started : Store → State → Ending

abbrev pub ending_of : {A : Type 0} → Opened A → Ending
ending_of (New current) = IsNew current
ending_of (Kept found) = Started found.store found.restart

abbrev pub ended : {A : Type 0} → Result (Opened A) StoreFault → Result Ending StoreFault
ended (Ok opened) = Ok (ending_of opened)
ended (Err fault) = Err fault

-- A start replays to a state, and then the journal is resumed. Or a start stops, and nothing is written. Or the journal
-- isn't resumed.
abbrev pub GoesOn : {D : Type 0} → Passage D → Sight → Result Ending StoreFault → Type 0
GoesOn p x (Ok (IsNew current)) = ⊥
GoesOn p x (Ok (Started store q)) =
    StartGives x.current.machine x.content (Ok q)
    × ResumeGives p x.current x.position x.last_at x.last (Ok store.journal)
    × (store ≡ resumed_store store.journal x.content)
GoesOn p x (Err fault) = (StartGives x.current.machine x.content (Err fault) × Unchanged p) ⊎ Halts p x fault

-- The content of the disk was seen, and then the start continued from it.
pub record SeesThen {D : Type 0} (p : Passage D) (result : Result Ending StoreFault) : Type 0 where
  pub mid : D
  pub sight : Sight
  pub sees : Sees (passage p.adds p.old mid) sight
  pub goes_on : GoesOn (passage p.adds mid p.new) sight result

-- no checkpoint was finished yet
abbrev pub IsUnfinished : Option Current → Type 0
IsUnfinished None = Unit {0}
IsUnfinished (Some c) = c.generation ≡ 0

-- ---- opening

-- **A store is opened.** It is new, or a start replays to what is kept. Else it can't be loaded, its file can't be
-- used, no start replays to a state, or the journal isn't resumed.
abbrev pub OpenGives : {D : Type 0} → Passage D → Result Ending StoreFault → Type 0
OpenGives p (Ok (IsNew current)) = LoadGives p current [] × IsUnfinished current
OpenGives p (Ok (Started store q)) = SeesThen p (Ok (Started store q))
OpenGives p (Err fault) =
    ((why : OpenFault) × (fault ≡ fault_of_load why) × LoadFails p why)
    ⊎ (((why : OpenFault) × (fault ≡ fault_of_load why) × Misses p why) ⊎ SeesThen p (Err fault))
