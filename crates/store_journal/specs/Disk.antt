-- Two files and CURRENT on a disk: the acts on them, and what a crash may leave.
use Rattle.std.specs.Prelude.{◌≡◌, ◌⊎◌, ◌==◌, ℕ, Bool, true, false, List, [], ◌∷◌, ◌++◌, length, take, nat_lt}
use Rattle.std.specs.Prelude.{if◌then◌else◌, Option, Some, None}
use Rattle.store_journal.specs.declared.disk.Slot.{Slot}
use Rattle.store_journal.specs.declared.disk.Slot.TheVariants.{A, B}

abbrev pub Bytes : Type 0
Bytes = List ℕ

-- an act is one call of a disk, with its result
pub data Act : Type 0 where
  -- CURRENT was read: it has these bytes, or it is missing
  Read : Option Bytes → Act
  -- reading CURRENT failed
  Unread : Act
  -- a file was read: it has these bytes
  Found : Slot → Bytes → Act
  -- reading a file failed
  Unfound : Slot → Act
  -- these bytes were written at this offset of a file
  Wrote : Slot → ℕ → Bytes → Act
  -- writing them failed, and any part of them may have been written
  Tore : Slot → ℕ → Bytes → Act
  -- everything that this program wrote to the file is durable
  Synced : Slot → Act
  -- syncing failed: what was written since the last sync may be lost, or not
  Unsynced : Slot → Act
  -- CURRENT was replaced as a whole, and its name and bytes are durable
  Turned : Bytes → Act
  -- replacing it failed: it has its old bytes or these
  Unturned : Bytes → Act

abbrev pub other : Slot → Slot
other A = B
other B = A

-- ---- a file

pub record FileState : Type 0 where
  -- each crash leaves these bytes at the start of the file
  pub safe : Bytes
  -- the file begins with these bytes, by what was written and read; what follows them is unknown
  pub now : Bytes
  -- it was written to
  pub touched : Bool

-- a file that is missing or empty
abbrev pub untouched : FileState
untouched = record { safe = []; now = []; touched = false }

-- the common prefix of two lists of bytes
abbrev pub shared : Bytes → Bytes → Bytes
shared [] new = []
shared (x ∷ old) [] = []
shared (x ∷ old) (y ∷ new) = if x == y then x ∷ shared old new else []

-- the known prefix of a file after a write
abbrev pub over : ℕ → Bytes → Bytes → Bytes
over at bytes now = if nat_lt (length now) at then now else take at now ++ bytes

-- A disk writes a sector whole or not at all. Durable bytes therefore stay durable up to the first byte that a write
-- changes: the old and the new sector agree before it.
abbrev pub with_write : ℕ → Bytes → FileState → FileState
with_write at bytes d =
    record { safe = shared d.safe (over at bytes d.now); now = over at bytes d.now; touched = true }

abbrev pub with_tear : ℕ → Bytes → FileState → FileState
with_tear at bytes d =
    record {
      safe = shared d.safe (over at bytes d.now);
      now = shared d.safe (over at bytes d.now);
      touched = true;
    }

abbrev pub after_sync : FileState → FileState
after_sync d = record { safe = d.now; now = d.now; touched = d.touched }

-- Bytes that are read may come from a program that ended before its sync, or whose sync failed. No later sync covers
-- those bytes, nor bytes that were written before a failed sync. Only the durable bytes are therefore known to stay.
abbrev pub after_reading : FileState → FileState
after_reading d = record { safe = d.safe; now = d.safe; touched = d.touched }

-- the effect of an act on one file: no other file changes
abbrev pub if_same : Slot → Slot → (FileState → FileState) → FileState → FileState
if_same A A f d = f d
if_same A B f d = d
if_same B A f d = d
if_same B B f d = f d

-- A file after these acts, the newest first. They are all acts that were ever done with it, over all starts.
abbrev pub on_disk : Slot → List Act → FileState
on_disk s [] = untouched
on_disk s (Read bytes ∷ acts) = on_disk s acts
on_disk s (Unread ∷ acts) = on_disk s acts
on_disk s (Found t bytes ∷ acts) = if_same s t after_reading (on_disk s acts)
on_disk s (Unfound t ∷ acts) = on_disk s acts
on_disk s (Wrote t at bytes ∷ acts) = if_same s t (with_write at bytes) (on_disk s acts)
on_disk s (Tore t at bytes ∷ acts) = if_same s t (with_tear at bytes) (on_disk s acts)
on_disk s (Synced t ∷ acts) = if_same s t after_sync (on_disk s acts)
on_disk s (Unsynced t ∷ acts) = if_same s t after_reading (on_disk s acts)
on_disk s (Turned bytes ∷ acts) = on_disk s acts
on_disk s (Unturned bytes ∷ acts) = on_disk s acts

-- A crash leaves the durable bytes, and after them any bytes of any length. Writes may be lost, torn, reordered or
-- corrupted, and old bytes may be left. A file that was never written to is empty.
pub record MayLeave (d : FileState) (file : Bytes) : Type 0 where
  pub more : Bytes
  pub is : file ≡ d.safe ++ more
  pub none : d.touched ≡ false → file ≡ []

-- ---- CURRENT

pub record Pointer : Type 0 where
  -- the bytes of the last replacement that succeeded, if any
  pub last : Option Bytes
  -- those of later replacements that didn't return or failed
  pub doubtful : List Bytes

abbrev pub on_current : List Act → Pointer
on_current [] = record { last = None; doubtful = [] }
on_current (Read bytes ∷ acts) = on_current acts
on_current (Unread ∷ acts) = on_current acts
on_current (Found t bytes ∷ acts) = on_current acts
on_current (Unfound t ∷ acts) = on_current acts
on_current (Wrote t at bytes ∷ acts) = on_current acts
on_current (Tore t at bytes ∷ acts) = on_current acts
on_current (Synced t ∷ acts) = on_current acts
on_current (Unsynced t ∷ acts) = on_current acts
on_current (Turned bytes ∷ acts) = record { last = Some bytes; doubtful = [] }
on_current (Unturned bytes ∷ acts) =
    record { last = (on_current acts).last; doubtful = bytes ∷ (on_current acts).doubtful }

abbrev pub IsAmong : List Bytes → Option Bytes → Type 0
IsAmong [] found = ⊥
IsAmong (bytes ∷ others) found = (found ≡ Some bytes) ⊎ IsAmong others found

-- a crash leaves this CURRENT, or none
abbrev pub MayRead : Pointer → Option Bytes → Type 0
MayRead p found = (found ≡ p.last) ⊎ IsAmong p.doubtful found

-- ---- how a call adds its act

abbrev pub wrote : Bool → Slot → ℕ → Bytes → Act
wrote true s at bytes = Wrote s at bytes
wrote false s at bytes = Tore s at bytes

abbrev pub synced : Bool → Slot → Act
synced true s = Synced s
synced false s = Unsynced s

abbrev pub turned : Bool → Bytes → Act
turned true bytes = Turned bytes
turned false bytes = Unturned bytes
