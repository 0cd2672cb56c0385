-- Which log is active after a checkpoint was written, or wasn't.
use Rattle.std.specs.Prelude.{◌≡◌, ◌⊎◌, ℕ, false, List, [], ◌∷◌, ◌++◌, map, Option, Some, Result, Ok, Err}
use Rattle.store_journal.specs.declared.fault.JournalFault.TheVariants.{TooLong, Full, NoCheckpoint, Failed}
use Rattle.store_journal.specs.declared.fault.JournalFault.TheVariants as journal
use Rattle.store_journal.specs.declared.journal.Journal.{Journal}
use Rattle.store_journal.specs.Begun.{IsBegun, IsFresh}
use Rattle.store_journal.specs.Disk.{Act, Bytes}
use Rattle.store_journal.specs.Files.{Content}
use Rattle.store_journal.specs.Frames.{Frame}
use Rattle.store_journal.specs.Journaled.{Log, IsIn, IsJournal}
use Rattle.store_journal.specs.Keeping.{end_frame, with_begun}
use Rattle.store_journal.specs.Serving.{of_acts, Matches, Serves, Stays, Writes, made_log}
use Rattle.checkpoint.specs.declared.fault.WriteFault.{WriteFault}
use Rattle.checkpoint.specs.declared.fault.WriteFault.TheVariants.{Unfit, Memory, Refused}
use Rattle.checkpoint.specs.Writing.{part_frame, CheckpointGives}

-- the parts, and no record yet
abbrev pub content_of : List Bytes → Content
content_of parts = record { parts = parts; records = [] }

abbrev pub part_frames : List Bytes → List Frame
part_frames parts = map part_frame parts

-- the log of a checkpoint of these parts, which ends at this place of its file
abbrev pub log_of : Journal → ℕ → List Bytes → ℕ → Log
log_of j machine parts at =
    made_log (with_begun j) machine (part_frames parts ++ end_frame ∷ []) (content_of parts) at

-- The old log is active. Nothing was done, or a prefix of the parts is written in the inactive file.
abbrev pub OldCounts : Journal → Option Log → List Bytes → List Act → Journal → List Act → Type 0
OldCounts j log parts acts j' acts' =
    Stays j j' acts acts' ⊎ ((prefix : List Bytes) × Writes j' log (part_frames prefix) acts')

-- **After a checkpoint its log is active, and no other.** Else the old log is. If the disk failed, it is one
-- of those that could be active before, or the old one, or either of the old one and the new one.
abbrev pub AfterCheckpoint : Journal → Option Log → List (Option Log) → ℕ → List Bytes → List Act
    → Result ℕ WriteFault → Journal → List Act → Type 0
AfterCheckpoint j log logs machine parts acts (Ok size) j' acts' =
    (at : ℕ) × Serves j' (Some (log_of j machine parts at)) acts'
AfterCheckpoint j log logs machine parts acts (Err Unfit) j' acts' = Stays j j' acts acts'
AfterCheckpoint j log logs machine parts acts (Err Memory) j' acts' = OldCounts j log parts acts j' acts'
AfterCheckpoint j log logs machine parts acts (Err (Refused TooLong)) j' acts' = OldCounts j log parts acts j' acts'
AfterCheckpoint j log logs machine parts acts (Err (Refused journal.Memory)) j' acts' =
    OldCounts j log parts acts j' acts'
AfterCheckpoint j log logs machine parts acts (Err (Refused Full)) j' acts' = OldCounts j log parts acts j' acts'
AfterCheckpoint j log logs machine parts acts (Err (Refused NoCheckpoint)) j' acts' = ⊥
AfterCheckpoint j log logs machine parts acts (Err (Refused Failed)) j' acts' =
    IsJournal logs acts'
    ⊎ (IsJournal (log ∷ []) acts'
    ⊎ ((at : ℕ) × IsJournal (Some (log_of j machine parts at) ∷ log ∷ []) acts'))

abbrev pub CountsLaw : Type 0
CountsLaw =
    (j j' : Journal) (log : Option Log) (logs : List (Option Log)) (machine : ℕ) (parts : List Bytes)
    (acts acts' : List Act) (result : Result ℕ WriteFault)
    → IsJournal logs acts → IsIn log logs → Matches j log → j.has_failed ≡ false
    → CheckpointGives (of_acts acts acts') machine j parts result j'
    → AfterCheckpoint j log logs machine parts acts result j' acts'

-- ---- generations

-- No frame of a later generation was ever written, whatever the result of the checkpoint. This holds for the
-- journal afterwards; if the disk failed, it holds for the journal that a start finds.
abbrev pub LeavesNew : Journal → Result ℕ WriteFault → Journal → List Act → Type 0
LeavesNew j (Ok size) j' acts' = IsFresh j' acts'
LeavesNew j (Err Unfit) j' acts' = IsFresh j' acts'
LeavesNew j (Err Memory) j' acts' = IsFresh j' acts'
LeavesNew j (Err (Refused TooLong)) j' acts' = IsFresh j' acts'
LeavesNew j (Err (Refused journal.Memory)) j' acts' = IsFresh j' acts'
LeavesNew j (Err (Refused Full)) j' acts' = IsFresh j' acts'
LeavesNew j (Err (Refused NoCheckpoint)) j' acts' = IsFresh j' acts'
LeavesNew j (Err (Refused Failed)) j' acts' = IsBegun j.current.identity acts'

abbrev pub NewLaw : Type 0
NewLaw =
    (j j' : Journal) (machine : ℕ) (parts : List Bytes) (acts acts' : List Act) (result : Result ℕ WriteFault)
    → IsFresh j acts → CheckpointGives (of_acts acts acts') machine j parts result j' → LeavesNew j result j' acts'
