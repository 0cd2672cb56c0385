-- Why a program can't use a store, given the fault of its calls.
use Rattle.std.specs.Prelude.{◌≡◌, ℕ}
use Rattle.call_store.specs.declared.fault.Corruption.TheVariants.{Journal, Checkpoint, Entry as InEntry}
use Rattle.call_store.specs.declared.fault.StoreFault.{StoreFault}
use Rattle.call_store.specs.declared.fault.StoreFault.TheVariants as fault
use Rattle.store_folder.specs.declared.folder.StoreFolder.{StoreFolder}
use Rattle.store_folder.specs.declared.stop.StoreStop.TheVariants as stop
use Rattle.store_folder.specs.Held.{without_failure}
use Rattle.store_folder.specs.Stops.{IsCorruptionStop}
use Rattle.store_folder.specs.Stops as folder
use Rattle.store_words.specs.declared.stop.Stop.{Stop}
use Rattle.store_words.specs.declared.stop.Stop.TheVariants.{Folder, Profile, Entry, Full, Unfit}

-- the number in `nfsd: store N`
abbrev pub number_of : Stop → ℕ
number_of (Folder s) = folder.number_of s
number_of Profile = 3
number_of (Entry place) = 4
number_of Full = 2
number_of Unfit = 2

-- the folder's system error is taken from the folder
abbrev pub IsFailedStop : {R A : Type 0} → StoreFolder R A → Stop → StoreFolder R A → Type 0
IsFailedStop old s new = (s ≡ Folder (stop.Failed old.held.failure)) × (new ≡ without_failure old)

-- the store was loaded again, and this is wrong with it
abbrev pub IsLoadedStop : {R A : Type 0} → StoreFolder R A → Stop → StoreFolder R A → Type 0
IsLoadedStop old (Folder f) new = IsCorruptionStop old f new
IsLoadedStop old Profile new = ⊥
IsLoadedStop old (Entry place) new = ⊥
IsLoadedStop old Full new = ⊥
IsLoadedStop old Unfit new = ⊥

-- the profile is unknown, or the folder reports which version it is, or why it can't be read any more
abbrev pub IsVersionStop : Stop → Type 0
IsVersionStop (Folder f) = Unit {0}
IsVersionStop Profile = Unit {0}
IsVersionStop (Entry place) = ⊥
IsVersionStop Full = ⊥
IsVersionStop Unfit = ⊥

-- Why a store isn't opened, or an entry isn't logged. A store of another version is loaded again, and that may fail.
abbrev pub IsStopOf : {R A : Type 0} → StoreFault → StoreFolder R A → Stop → StoreFolder R A → Type 0
IsStopOf fault.Failed old s new = IsFailedStop old s new
IsStopOf fault.Version old s new = IsVersionStop s
IsStopOf (fault.Corrupt (InEntry place)) old s new = (s ≡ Entry place) × (new ≡ old)
IsStopOf (fault.Corrupt Journal) old s new = IsLoadedStop old s new
IsStopOf (fault.Corrupt Checkpoint) old s new = IsLoadedStop old s new
IsStopOf fault.Memory old s new = (s ≡ Folder stop.Memory) × (new ≡ old)
IsStopOf fault.Full old s new = (s ≡ Full) × (new ≡ old)
IsStopOf fault.Unfit old s new = (s ≡ Unfit) × (new ≡ old)
