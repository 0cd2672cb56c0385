-- How many bytes a checkpoint and the records after it have, and when the next checkpoint is due.
use Rattle.std.specs.Prelude.{ℕ, ◌+◌, ◌-◌, ◌==◌, ◌&&◌, Bool, true, false, List, [], ◌∷◌, max, nat_le, not}
use Rattle.store_journal.specs.declared.journal.Journal.{Journal}
use Rattle.store_journal.specs.Disk.{Bytes}
use Rattle.store_journal.specs.Files.{Content}
use Rattle.store_journal.specs.Frames.{MAX_BODY}
use Rattle.store_journal.specs.Keeping.{failed}
use Rattle.checkpoint.specs.Writing.{size_of}
use Rattle.call_store.specs.declared.store.Store.{Store}
use Rattle.call_store.specs.Machine.{MACHINE}

-- The records after a checkpoint may have as many bytes as the checkpoint, and at least 64 MiB.
abbrev pub LEAST : ℕ
LEAST = 67108864

-- how many more bytes the records after the checkpoint may have
abbrev pub room_in : Store → ℕ
room_in store = max LEAST store.size - store.logged

-- Whether a record with this number of bytes may be appended. The checkpoint is of this machine, and the record fits a
-- frame and the remaining room.
abbrev pub takes : Store → ℕ → Bool
takes store bytes =
    store.journal.current.machine == MACHINE && (nat_le bytes MAX_BODY && nat_le bytes (room_in store))

-- ---- how a store changes

abbrev pub is_empty : List Bytes → Bool
is_empty [] = true
is_empty (bytes ∷ records) = false

-- a store that is resumed from what a start found
abbrev pub resumed_store : Journal → Content → Store
resumed_store j content = record {
  journal = j;
  size = size_of content.parts;
  logged = size_of content.records;
  has_records = not (is_empty content.records);
  is_marked = is_empty content.records;
}

-- a store with a checkpoint of `size` bytes, and no record
abbrev pub renewed : Journal → ℕ → Store
renewed j size = record { journal = j; size = size; logged = 0; has_records = false; is_marked = true }

abbrev pub with_journal : Journal → Store → Store
with_journal j store = record store { journal = j }

-- a record of this number of bytes was appended
abbrev pub with_record : Journal → ℕ → Store → Store
with_record j bytes store = record {
  journal = j;
  size = store.size;
  logged = store.logged + bytes;
  has_records = true;
  is_marked = false;
}

-- a mark was appended
abbrev pub with_mark : Journal → Store → Store
with_mark j store = record store { journal = j; is_marked = true }

-- the store doesn't call the disk any more
abbrev pub stopped : Store → Store
stopped store = record store { journal = failed store.journal }

-- everything that is kept is in the checkpoint, and the checkpoint is of this machine
abbrev pub is_closed : Store → Bool
is_closed store = not store.has_records && store.journal.current.machine == MACHINE
