-- A frame is written after the frames before it, and the end of the log after it.
use Rattle.std.specs.Prelude.{◌≡◌, ◌⊎◌, ◌<◌, ◌+◌, ℕ, ◌++◌, length}
use Rattle.store_journal.specs.declared.checksum.Identity.{Identity}
use Rattle.store_journal.specs.declared.writing.Position.{Position}
use Rattle.store_journal.specs.Disk.{Bytes}
use Rattle.store_journal.specs.Frames.{Frame, framed, log_end, next_place, start}

-- the largest offset of a frame: 2^62
abbrev pub MOST : ℕ
MOST = 4611686018427387904

-- the position of a generation's first frame
abbrev pub at_start : ℕ → Position
at_start generation = record { place = start generation; at = 0 }

-- the position of the frame after this one
abbrev pub next_position : Identity → Position → Frame → Position
next_position id e f = record { place = next_place id e.place f; at = e.at + length (framed id e.place f) }

-- a frame with the end of the log after it
abbrev pub ended : Identity → Position → Frame → Bytes
ended id e f = framed id e.place f ++ log_end

-- no number is left for a frame, or no room in the file
abbrev pub IsLast : Position → Type 0
IsLast e = (e.place.number ≡ 18446744073709551615) ⊎ (MOST < e.at)
