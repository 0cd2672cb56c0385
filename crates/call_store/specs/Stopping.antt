-- Where a start stops, and why.
use Rattle.std.specs.Prelude.{◌≡◌, ◌≢◌, ◌⊎◌, ℕ, false, List, [], ◌∷◌, ◌++◌, length, Some, None, Result, Ok, Err}
use Rattle.store_journal.specs.Disk.{Bytes}
use Rattle.store_journal.specs.Files.{Content}
use Rattle.log_entries.specs.Entries.{Entry, entry_at}
use Rattle.checkpoint.specs.Holds.{Holds, IsOfOther}
use Rattle.checkpoint.specs.Kept.{Kept}
use Rattle.checkpoint.specs.Reading.{HoldsNothing}
use Rattle.compound_run.specs.ClientState.{opens_fit}
use Rattle.compound_run.specs.State.{State}
use Rattle.nfs_hub.specs.Replaying.{ReplayEnds}
use Rattle.nfs_hub.specs.declared.restart.ReplayFault.TheVariants.{Differs}
use Rattle.hub_laws.specs.Kept.{ReplaysAll}
use Rattle.call_store.specs.declared.fault.Corruption.TheVariants.{Journal, Checkpoint, Entry as InEntry}
use Rattle.call_store.specs.declared.fault.StoreFault.{StoreFault}
use Rattle.call_store.specs.declared.fault.StoreFault.TheVariants.{Failed, Version, Corrupt, Memory, Full, Unfit}
use Rattle.call_store.specs.Machine.{IsOwn, IsForeign}
use Rattle.call_store.specs.Representing.{Restores, ReplaysRecords, ReplaysTo}

-- the bytes begin with these entries, one after the other, and then the rest follows
abbrev pub AreTaken : List Entry → Bytes → Bytes → Type 0
AreTaken [] bytes rest = rest ≡ bytes
AreTaken (entry ∷ entries) bytes rest =
    (after : Bytes) × (entry_at bytes ≡ Some (entry, after)) × AreTaken entries after rest

-- the rest of a record begins with no entry, or its next entry has another result now
abbrev pub StopsAt : Bytes → State → Type 0
StopsAt rest s =
    ((rest ≢ []) × (entry_at rest ≡ None))
    ⊎ ((entry : Entry) × (after : Bytes) × (new : State) × (entry_at rest ≡ Some (entry, after))
    × ReplayEnds (Err Differs) entry s new)

-- after this number of entries of a record, which were replayed, the next one isn't replayed
pub record StopsIn (bytes : Bytes) (number : ℕ) (old : State) : Type 0 where
  pub prefix : List Entry
  pub number_is : number ≡ length prefix
  pub rest : Bytes
  pub taken : AreTaken prefix bytes rest
  pub mid : State
  pub replays : ReplaysAll prefix old mid
  pub stops : StopsAt rest mid

-- after `record_number` records, which were replayed, the next one isn't: it stops after `entry_number` entries
pub record StopsAmong (records : List Bytes) (record_number entry_number : ℕ) (base : State) : Type 0 where
  pub before : List Bytes
  pub bytes : Bytes
  pub others : List Bytes
  pub records_are : records ≡ before ++ bytes ∷ others
  pub number_is : record_number ≡ length before
  pub mid : State
  pub replays : ReplaysRecords before base mid
  pub stops : StopsIn bytes entry_number mid

-- the checkpoint holds nothing, or something from which no server can be restored
abbrev pub RestoresNothing : List Bytes → Type 0
RestoresNothing parts =
    HoldsNothing parts ⊎ ((kept : Kept) × Holds parts kept × (opens_fit kept.world kept.clients ≡ false))

-- **A start from what is stored replays to a state, or stops for this reason.** Nothing is written. Another version is
-- reported as `Version`, however much memory is available.
abbrev pub StartGives : ℕ → Content → Result State StoreFault → Type 0
StartGives machine content (Ok q) = IsOwn machine content × ReplaysTo content q
StartGives machine content (Err Failed) = ⊥
StartGives machine content (Err Version) = IsForeign machine content ⊎ IsOfOther content.parts
StartGives machine content (Err (Corrupt Journal)) = ⊥
StartGives machine content (Err (Corrupt Checkpoint)) = RestoresNothing content.parts
StartGives machine content (Err (Corrupt (InEntry place))) =
    (base : State) × Restores content.parts base
    × StopsAmong content.records place.record_number place.entry_number base
StartGives machine content (Err Memory) = IsOwn machine content × (IsOfOther content.parts → ⊥)
StartGives machine content (Err Full) = ⊥
StartGives machine content (Err Unfit) = ⊥
