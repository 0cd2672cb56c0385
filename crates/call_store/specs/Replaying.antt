-- The steps of a start, each with its result.
use Rattle.std.specs.Prelude.{◌≡◌, ℕ, List, map, Some, Result, Ok, Err}
use Rattle.store_journal.specs.declared.opening.Chosen.{Chosen}
use Rattle.store_journal.specs.Disk.{Bytes}
use Rattle.store_journal.specs.Files.{Content}
use Rattle.log_entries.specs.Entries.{Entry, entries_in}
use Rattle.checkpoint.specs.Holds.{IsOfOther}
use Rattle.compound_run.specs.State.{State}
use Rattle.hub_laws.specs.Kept.{ReplaysAll}
use Rattle.call_store.specs.declared.fault.Corruption.TheVariants.{Journal, Checkpoint, Entry as InEntry}
use Rattle.call_store.specs.declared.fault.StoreFault.{StoreFault}
use Rattle.call_store.specs.declared.fault.StoreFault.TheVariants.{Failed, Version, Corrupt, Memory, Full, Unfit}
use Rattle.call_store.specs.declared.replaying.RecordFault.{RecordFault}
use Rattle.call_store.specs.declared.replaying.RecordFault.TheVariants as records
use Rattle.call_store.specs.Opening.{Sight}
use Rattle.call_store.specs.Representing.{Restores, ReplaysRecords}
use Rattle.call_store.specs.Stopping.{RestoresNothing, StopsIn, StopsAmong}

abbrev pub content_of : List Bytes → List Bytes → Content
content_of parts records = record { parts = parts; records = records }

-- the content that was chosen from a file
abbrev pub sight_of : {A : Type 0} → Chosen A → Sight
sight_of chosen = record {
  current = chosen.current;
  content = content_of (map (λ b. b.now) chosen.parts.items) (map (λ b. b.now) chosen.records.items);
  position = chosen.position;
  last_at = chosen.last_at;
  last = chosen.last.now;
}

-- all entries of a record are replayed, or one isn't
abbrev pub RecordEnds : Result (Unit {0}) RecordFault → Bytes → State → State → Type 0
RecordEnds (Ok done) bytes old new =
    (entries : List Entry) × (entries_in bytes ≡ Some entries) × ReplaysAll entries old new
RecordEnds (Err (records.Corrupt number)) bytes old new = StopsIn bytes number old
RecordEnds (Err records.Memory) bytes old new = Unit {0}

-- why a start stops, if the record of this number isn't replayed for this reason
abbrev pub fault_in : ℕ → RecordFault → StoreFault
fault_in number (records.Corrupt entry) = Corrupt (InEntry (record { record_number = number; entry_number = entry }))
fault_in number records.Memory = Memory

-- all records are replayed, or one isn't
abbrev pub RecordsEnd : Result (Unit {0}) StoreFault → List Bytes → State → State → Type 0
RecordsEnd (Ok done) records old new = ReplaysRecords records old new
RecordsEnd (Err Failed) records old new = ⊥
RecordsEnd (Err Version) records old new = ⊥
RecordsEnd (Err (Corrupt Journal)) records old new = ⊥
RecordsEnd (Err (Corrupt Checkpoint)) records old new = ⊥
RecordsEnd (Err (Corrupt (InEntry place))) records old new =
    StopsAmong records place.record_number place.entry_number old
RecordsEnd (Err Memory) records old new = Unit {0}
RecordsEnd (Err Full) records old new = ⊥
RecordsEnd (Err Unfit) records old new = ⊥

-- a server is restored from parts, or it isn't
abbrev pub RestoringGives : List Bytes → Result State StoreFault → Type 0
RestoringGives parts (Ok q) = Restores parts q
RestoringGives parts (Err Failed) = ⊥
RestoringGives parts (Err Version) = IsOfOther parts
RestoringGives parts (Err (Corrupt Journal)) = ⊥
RestoringGives parts (Err (Corrupt Checkpoint)) = RestoresNothing parts
RestoringGives parts (Err (Corrupt (InEntry place))) = ⊥
RestoringGives parts (Err Memory) = IsOfOther parts → ⊥
RestoringGives parts (Err Full) = ⊥
RestoringGives parts (Err Unfit) = ⊥
