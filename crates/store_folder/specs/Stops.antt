-- Why a program doesn't open a store or ends.
use Rattle.std.specs.Prelude.{◌≡◌, ◌≢◌, ◌⊎◌, ℕ, Option, Some, None}
use Rattle.store_journal.specs.declared.current.Current.{Current}
use Rattle.store_journal.specs.declared.fault.CurrentFault.TheVariants.{Version as Another, Corrupt as Unwhole}
use Rattle.store_journal.specs.declared.fault.OpenFault.{OpenFault}
use Rattle.store_journal.specs.declared.fault.OpenFault.TheVariants.{Failed as Unreadable, Version as OtherVersion}
use Rattle.store_journal.specs.declared.fault.OpenFault.TheVariants.{Corrupt as Broken, Memory as NoRoom}
use Rattle.store_journal.specs.declared.writing.Position.{Position}
use Rattle.store_journal.specs.Disk.{Bytes}
use Rattle.store_journal.specs.Files.{Content}
use Rattle.store_journal.specs.Opening.{Chooses, IsCorrupt, LeftUnread, LoadGives, Orphaned, Says}
use Rattle.store_journal.specs.Passage.{passage}
use Rattle.store_folder.specs.declared.corruption.Corruption.{Corruption}
use Rattle.store_folder.specs.declared.corruption.Corruption.TheVariants.{Part as InFolder, Current as NotWhole, Rotten}
use Rattle.store_folder.specs.declared.corruption.Corruption.TheVariants.{NoCheckpoint}
use Rattle.store_folder.specs.declared.corruption.Corruption.TheVariants.{Content as NoTree}
use Rattle.store_folder.specs.declared.fault.FolderFault.{FolderFault}
use Rattle.store_folder.specs.declared.fault.FolderFault.TheVariants.{InUse as HadByAnother, Failed as Reported}
use Rattle.store_folder.specs.declared.fault.FolderFault.TheVariants.{Earlier as OfEarlier, Corrupt as Flawed}
use Rattle.store_folder.specs.declared.fault.FolderFault.TheVariants.{Memory as NoMemory}
use Rattle.store_folder.specs.declared.folder.StoreFolder.{StoreFolder}
use Rattle.store_folder.specs.declared.stop.StoreStop.{StoreStop}
use Rattle.store_folder.specs.declared.stop.StoreStop.TheVariants.{InUse, Failed, Version, Corrupt, Memory}
use Rattle.store_folder.specs.declared.stop.Unknown.TheVariants.{Earlier, Form}
use Rattle.store_folder.specs.Faults.{part_in}
use Rattle.store_folder.specs.Held.{KeepsIn, without_failure}
use Rattle.store_folder.specs.Spots.{IsSpotIn}

-- the number in `nfsd: store N`
abbrev pub number_of : StoreStop → ℕ
number_of InUse = 1
number_of (Failed failure) = 2
number_of (Version unknown) = 3
number_of (Corrupt corruption) = 4
number_of Memory = 5

-- for a folder that isn't opened
abbrev pub stop_by : FolderFault → StoreStop
stop_by HadByAnother = InUse
stop_by (Reported failure) = Failed (Some failure)
stop_by OfEarlier = Version Earlier
stop_by (Flawed part flaw) = Corrupt (InFolder part flaw)
stop_by NoMemory = Memory

-- ---- corruption of the file that CURRENT names

-- it has a checkpoint and records, and no durable frame is corrupt or missing
pub record IsSound (c : Current) (file : Bytes) : Type 0 where
  pub content : Option Content
  pub position : Position
  pub at : ℕ
  pub last : Bytes
  pub chooses : Chooses c file content position at last

abbrev pub IsChoiceCorruption : Current → Bytes → Corruption → Type 0
IsChoiceCorruption c file (InFolder part flaw) = ⊥
IsChoiceCorruption c file NotWhole = ⊥
IsChoiceCorruption c file (Rotten spot) = IsCorrupt c file × (spot.part ≡ part_in c.slot) × IsSpotIn c file spot
IsChoiceCorruption c file NoCheckpoint = ⊥
IsChoiceCorruption c file (NoTree part) = IsSound c file × (part ≡ part_in c.slot)

abbrev pub IsChoiceStop : Current → Bytes → StoreStop → Type 0
IsChoiceStop c file InUse = ⊥
IsChoiceStop c file (Failed failure) = ⊥
IsChoiceStop c file (Version unknown) = ⊥
IsChoiceStop c file (Corrupt corruption) = IsChoiceCorruption c file corruption
IsChoiceStop c file Memory = Unit {0}

-- ---- corruption of the loaded content

abbrev pub IsNoCheckpoint : StoreStop → Type 0
IsNoCheckpoint stop = stop ≡ Corrupt NoCheckpoint

abbrev pub IsLoadedStop : Option Current → Bytes → StoreStop → Type 0
IsLoadedStop None bytes stop = IsNoCheckpoint stop
IsLoadedStop (Some c) bytes stop =
    ((c.generation ≡ 0) × IsNoCheckpoint stop) ⊎ ((c.generation ≢ 0) × IsChoiceStop c bytes stop)

-- the store was loaded, and this is wrong with it
pub record IsFoundStop {R A : Type 0} (old : StoreFolder R A) (stop : StoreStop) (new : StoreFolder R A) : Type 0 where
  pub current : Option Current
  pub bytes : Bytes
  pub loads : LoadGives (passage KeepsIn old new) current bytes
  pub stops : IsLoadedStop current bytes stop

-- the system's error of the failed load was taken out of the folder
pub record IsFailedStop {R A : Type 0} (old : StoreFolder R A) (stop : StoreStop) (new : StoreFolder R A) : Type 0 where
  pub mid : StoreFolder R A
  pub unread : LeftUnread (passage KeepsIn old mid)
  pub is : stop ≡ Failed mid.held.failure
  pub after : new ≡ without_failure mid

-- It was loaded. Or CURRENT is corrupt, is missing, or is of another version. Or it wasn't read, since an allocation
-- or a call of the system failed.
abbrev pub IsCorruptionStop : {R A : Type 0} → StoreFolder R A → StoreStop → StoreFolder R A → Type 0
IsCorruptionStop old stop new =
    IsFoundStop old stop new
    ⊎ (((Says (passage KeepsIn old new) Unwhole ⊎ Orphaned (passage KeepsIn old new)) × (stop ≡ Corrupt NotWhole))
    ⊎ ((Says (passage KeepsIn old new) Another × (stop ≡ Version Form))
    ⊎ ((LeftUnread (passage KeepsIn old new) × (stop ≡ Memory)) ⊎ IsFailedStop old stop new)))

-- for the journal's fault when it refuses the store
abbrev pub IsRefusalStop : {R A : Type 0} → StoreFolder R A → OpenFault → StoreStop → StoreFolder R A → Type 0
IsRefusalStop old Unreadable stop new = (stop ≡ Failed old.held.failure) × (new ≡ without_failure old)
IsRefusalStop old OtherVersion stop new = (stop ≡ Version Form) × (new ≡ old)
IsRefusalStop old Broken stop new = IsCorruptionStop old stop new
IsRefusalStop old NoRoom stop new = (stop ≡ Memory) × (new ≡ old)
