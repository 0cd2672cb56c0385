-- A look at a store: CURRENT and its file are read, and a start replays to a state. Nothing is written.
use Rattle.std.specs.Prelude.{◌≡◌, ◌≢◌, ◌⊎◌, ℕ, [], Option, Some, None, Result, Ok, Err}
use Rattle.store_journal.specs.declared.current.Current.{Current}
use Rattle.store_journal.specs.declared.fault.OpenFault.{OpenFault}
use Rattle.store_journal.specs.declared.writing.Position.{Position}
use Rattle.store_journal.specs.Disk.{Bytes}
use Rattle.store_journal.specs.Files.{Content}
use Rattle.store_journal.specs.Opening.{LoadGives, LoadFails, Chooses, RefusedFor}
use Rattle.store_journal.specs.Passage.{Passage}
use Rattle.checkpoint.specs.Holds.{IsOfOther}
use Rattle.compound_run.specs.State.{State}
use Rattle.call_store.specs.declared.fault.Corruption.TheVariants.{Journal, Checkpoint, Entry as InEntry}
use Rattle.call_store.specs.declared.fault.StoreFault.{StoreFault}
use Rattle.call_store.specs.declared.fault.StoreFault.TheVariants.{Failed, Version, Corrupt, Memory, Full, Unfit}
use Rattle.call_store.specs.declared.looking.Looked.{Looked}
use Rattle.call_store.specs.Machine.{IsOwn, IsForeign}
use Rattle.call_store.specs.Opening.{IsUnfinished, fault_of_load}
use Rattle.call_store.specs.Representing.{Restores}
use Rattle.call_store.specs.Stopping.{RestoresNothing, StartGives}

-- ---- the checkpoint alone

-- A server is restored from a checkpoint. Any entries after it are of this machine. Or no server is restored, for this
-- reason.
abbrev pub BeginningGives : ℕ → Content → Result State StoreFault → Type 0
BeginningGives machine content (Ok q) = IsOwn machine content × Restores content.parts q
BeginningGives machine content (Err Failed) = ⊥
BeginningGives machine content (Err Version) = IsForeign machine content ⊎ IsOfOther content.parts
BeginningGives machine content (Err (Corrupt Journal)) = ⊥
BeginningGives machine content (Err (Corrupt Checkpoint)) = RestoresNothing content.parts
BeginningGives machine content (Err (Corrupt (InEntry place))) = ⊥
BeginningGives machine content (Err Memory) = IsOwn machine content × (IsOfOther content.parts → ⊥)
BeginningGives machine content (Err Full) = ⊥
BeginningGives machine content (Err Unfit) = ⊥

-- ---- a file

-- the file that CURRENT names has this content; a start from it replays to a state, or stops for this reason
pub record Has (current : Current) (file : Bytes) (result : Result State StoreFault) : Type 0 where
  pub content : Content
  pub position : Position
  pub last_at : ℕ
  pub last : Bytes
  pub chooses : Chooses current file (Some content) position last_at last
  pub starts : StartGives current.machine content result

-- or the file can't be used
abbrev pub FileGives : Current → Bytes → Result State StoreFault → Type 0
FileGives current file (Ok q) = Has current file (Ok q)
FileGives current file (Err fault) =
    ((why : OpenFault) × (fault ≡ fault_of_load why) × RefusedFor current file why) ⊎ Has current file (Err fault)

-- ---- a store

-- CURRENT, the bytes of the file that it names, and the state to which a start replays
pub record Look : Type 0 where
  pub current : Current
  pub file : Bytes
  pub state : State

abbrev pub look_of : {A : Type 0} → Looked A → Look
look_of found = record { current = found.current; file = found.file.items; state = found.restart }

abbrev pub looked : {A : Type 0} → Result (Option (Looked A)) StoreFault → Result (Option Look) StoreFault
looked (Ok None) = Ok None
looked (Ok (Some found)) = Ok (Some (look_of found))
looked (Err fault) = Err fault

-- CURRENT names a file, and a start from it replays to this state
pub record Finds {D : Type 0} (p : Passage D) (look : Look) : Type 0 where
  pub loads : LoadGives p (Some look.current) look.file
  pub some : look.current.generation ≢ 0
  pub gives : FileGives look.current look.file (Ok look.state)

-- CURRENT names a file, and no start from it replays to a state, for this reason
pub record Hides {D : Type 0} (p : Passage D) (fault : StoreFault) : Type 0 where
  pub current : Current
  pub file : Bytes
  pub loads : LoadGives p (Some current) file
  pub some : current.generation ≢ 0
  pub gives : FileGives current file (Err fault)

-- **A look at a store.** No checkpoint was finished yet, or a start replays to what is kept. Or the store can't be
-- loaded, or no start replays to a state. The disk is only read.
abbrev pub LookGives : {D : Type 0} → Passage D → Result (Option Look) StoreFault → Type 0
LookGives p (Ok None) = (current : Option Current) × LoadGives p current [] × IsUnfinished current
LookGives p (Ok (Some look)) = Finds p look
LookGives p (Err fault) =
    ((why : OpenFault) × (fault ≡ fault_of_load why) × LoadFails p why) ⊎ Hides p fault
