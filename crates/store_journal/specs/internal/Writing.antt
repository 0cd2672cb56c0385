-- A frame is written after the frames before it, and the end of the log after it.
use Rattle.std.specs.Prelude.{◌≡◌, ◌<◌, length, Result, Ok, Err}
use Rattle.store_journal.specs.declared.checksum.Identity.{Identity}
use Rattle.store_journal.specs.declared.disk.Slot.{Slot}
use Rattle.store_journal.specs.declared.fault.JournalFault.{JournalFault}
use Rattle.store_journal.specs.declared.fault.JournalFault.TheVariants.{TooLong, Memory, Full, NoCheckpoint, Failed}
use Rattle.store_journal.specs.declared.writing.Position.{Position}
use Rattle.store_journal.specs.Disk.{Wrote, Tore}
use Rattle.store_journal.specs.Frames.{Frame, MAX_BODY, IsFit}
use Rattle.store_journal.specs.Passage.{Passage, Unchanged, Once}
use Rattle.store_journal.specs.Writing.{IsLast, ended, next_position}

-- The frame is written, with the end of the log after it. Or it is too long, an allocation fails or no number is
-- left, and nothing has changed. Or the disk has failed, and a crash may leave the frame.
abbrev pub WriteGives : {D : Type 0} → Passage D → Identity → Slot → Position → Frame
    → Result Position JournalFault → Type 0
WriteGives p id slot e f (Ok e') =
    Once p (Wrote slot e.at (ended id e f)) × IsFit id e.place f × (e' ≡ next_position id e f)
WriteGives p id slot e f (Err TooLong) = (MAX_BODY < length f.body) × Unchanged p
WriteGives p id slot e f (Err Memory) = Unchanged p
WriteGives p id slot e f (Err Full) = IsLast e × Unchanged p
WriteGives p id slot e f (Err NoCheckpoint) = ⊥
WriteGives p id slot e f (Err Failed) = Once p (Tore slot e.at (ended id e f)) × IsFit id e.place f
