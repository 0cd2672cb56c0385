-- Each call of a journal is defined by its result, its acts on a disk, and the journal after it.
use Rattle.std.specs.Prelude.{◌≡◌, ◌≢◌, ◌⊎◌, ◌<◌, ℕ, Bool, true, false, [], ◌++◌, length, Option, Some, None}
use Rattle.std.specs.Prelude.{Result, Ok, Err}
use Rattle.store_journal.specs.declared.current.Current.{Current}
use Rattle.store_journal.specs.declared.fault.JournalFault.{JournalFault}
use Rattle.store_journal.specs.declared.fault.JournalFault.TheVariants.{TooLong, Memory, Full, NoCheckpoint, Failed}
use Rattle.store_journal.specs.declared.journal.Journal.{Journal}
use Rattle.store_journal.specs.declared.writing.Position.{Position}
use Rattle.store_journal.specs.Current.{begun_next, turned_to_begun, current_bytes, IsFitCurrent}
use Rattle.store_journal.specs.Disk.{Bytes, Wrote, Tore, Synced, Unsynced, Turned, Unturned, other}
use Rattle.store_journal.specs.Frames.{Frame, END, MAX_BODY, frame_with, IsFit, wiped}
use Rattle.store_journal.specs.Passage.{Passage, Unchanged, Once, Twice, Thrice}
use Rattle.store_journal.specs.Writing.{at_start, next_position, ended, IsLast}

-- ---- a journal, and its changes

abbrev pub journal_with : Current → Position → Option Position → Bool → Journal
journal_with current position next failed =
    record { current = current; position = position; next = next; has_failed = failed }

-- the journal of a store without a finished checkpoint
abbrev pub new_journal : Current → Journal
new_journal c = journal_with c (at_start 0) None false

-- the journal after a start
abbrev pub resumed : Current → Position → Journal
resumed c position = journal_with c position None false

-- the disk isn't called again
abbrev pub failed : Journal → Journal
failed j = journal_with j.current j.position j.next true

-- the active file has one more frame; a checkpoint in progress is abandoned
abbrev pub with_frame : Journal → Frame → Journal
with_frame j f = journal_with j.current (next_position j.current.identity j.position f) None j.has_failed

-- a checkpoint of the next generation is begun
abbrev pub with_begun : Journal → Journal
with_begun j =
    journal_with (begun_next j.current) j.position (Some (at_start (begun_next j.current).begun)) j.has_failed

-- the checkpoint in progress has one more frame
abbrev pub with_part : Journal → Position → Frame → Journal
with_part j e f = journal_with j.current j.position (Some (next_position j.current.identity e f)) j.has_failed

abbrev pub end_frame : Frame
end_frame = frame_with END []

-- the checkpoint in progress is active
abbrev pub with_checkpoint : Journal → ℕ → Position → Journal
with_checkpoint j machine e =
    journal_with (turned_to_begun j.current machine) (next_position j.current.identity e end_frame) None false

-- the disk had failed before: it isn't called
abbrev pub HadFailed : {D : Type 0} → Passage D → Journal → Journal → Type 0
HadFailed p j j' = (j.has_failed ≡ true) × Unchanged p × (j' ≡ j)

-- nothing has changed
abbrev pub IsAsBefore : {D : Type 0} → Passage D → Journal → Journal → Type 0
IsAsBefore p j j' = Unchanged p × (j' ≡ j)

-- ---- frames in the active file

-- The frame is written and then synced. At most one frame is therefore unsynced at a time.
abbrev pub AppendGives : {D : Type 0} → Passage D → Journal → Frame → Result (Unit {0}) JournalFault → Journal → Type 0
AppendGives p j f (Ok done) j' =
    Twice p (Wrote j.current.slot j.position.at (ended j.current.identity j.position f)) (Synced j.current.slot)
    × IsFit j.current.identity j.position.place f × (j.has_failed ≡ false) × (j.current.generation ≢ 0)
    × (j' ≡ with_frame j f)
AppendGives p j f (Err TooLong) j' = (MAX_BODY < length f.body) × IsAsBefore p j j'
AppendGives p j f (Err Memory) j' = IsAsBefore p j j'
AppendGives p j f (Err Full) j' = IsLast j.position × IsAsBefore p j j'
AppendGives p j f (Err NoCheckpoint) j' = (j.current.generation ≡ 0) × IsAsBefore p j j'
AppendGives p j f (Err Failed) j' =
    HadFailed p j j'
    ⊎ ((Once p (Tore j.current.slot j.position.at (ended j.current.identity j.position f))
    ⊎ Twice p (Wrote j.current.slot j.position.at (ended j.current.identity j.position f)) (Unsynced j.current.slot))
    × IsFit j.current.identity j.position.place f × (j.has_failed ≡ false) × (j.current.generation ≢ 0)
    × (j' ≡ failed j))

-- ---- a checkpoint in the inactive file

-- CURRENT is replaced to record one more begun generation, before any of its frames is written.
abbrev pub BeginGives : {D : Type 0} → Passage D → Journal → Result (Unit {0}) JournalFault → Journal → Type 0
BeginGives p j (Ok done) j' =
    Once p (Turned (current_bytes (begun_next j.current))) × IsFitCurrent (begun_next j.current)
    × (j.has_failed ≡ false) × (j' ≡ with_begun j)
BeginGives p j (Err TooLong) j' = ⊥
BeginGives p j (Err Memory) j' = IsAsBefore p j j'
BeginGives p j (Err Full) j' = (j.current.begun ≡ 18446744073709551615) × IsAsBefore p j j'
BeginGives p j (Err NoCheckpoint) j' = ⊥
BeginGives p j (Err Failed) j' =
    HadFailed p j j'
    ⊎ (Once p (Unturned (current_bytes (begun_next j.current))) × IsFitCurrent (begun_next j.current)
    × (j.has_failed ≡ false) × (j' ≡ failed j))

-- The frame is written, and not synced.
pub record PartWritten {D : Type 0} (p : Passage D) (j : Journal) (f : Frame) (j' : Journal) : Type 0 where
  pub at : Position
  pub is_begun : j.next ≡ Some at
  pub wrote : Once p (Wrote (other j.current.slot) at.at (ended j.current.identity at f))
  pub fit : IsFit j.current.identity at.place f
  pub going : j.has_failed ≡ false
  pub then_is : j' ≡ with_part j at f

pub record PartTorn {D : Type 0} (p : Passage D) (j : Journal) (f : Frame) (j' : Journal) : Type 0 where
  pub at : Position
  pub is_begun : j.next ≡ Some at
  pub tore : Once p (Tore (other j.current.slot) at.at (ended j.current.identity at f))
  pub fit : IsFit j.current.identity at.place f
  pub going : j.has_failed ≡ false
  pub then_is : j' ≡ failed j

-- the checkpoint in progress has no number or room left
pub record HasNoMore (j : Journal) : Type 0 where
  pub at : Position
  pub is_begun : j.next ≡ Some at
  pub last : IsLast at

abbrev pub PartGives : {D : Type 0} → Passage D → Journal → Frame → Result (Unit {0}) JournalFault → Journal → Type 0
PartGives p j f (Ok done) j' = PartWritten p j f j'
PartGives p j f (Err TooLong) j' = (MAX_BODY < length f.body) × IsAsBefore p j j'
PartGives p j f (Err Memory) j' = IsAsBefore p j j'
PartGives p j f (Err Full) j' = HasNoMore j × IsAsBefore p j j'
PartGives p j f (Err NoCheckpoint) j' = (j.next ≡ None) × IsAsBefore p j j'
PartGives p j f (Err Failed) j' = HadFailed p j j' ⊎ PartTorn p j f j'

-- The end frame is written, its file is synced, and only then CURRENT is replaced to name it.
pub record Finished {D : Type 0} (p : Passage D) (machine : ℕ) (j j' : Journal) : Type 0 where
  pub at : Position
  pub is_begun : j.next ≡ Some at
  pub acts : Thrice p (Wrote (other j.current.slot) at.at (ended j.current.identity at end_frame))
      (Synced (other j.current.slot)) (Turned (current_bytes (turned_to_begun j.current machine)))
  pub fit : IsFit j.current.identity at.place end_frame
  pub fit_current : IsFitCurrent (turned_to_begun j.current machine)
  pub going : j.has_failed ≡ false
  pub then_is : j' ≡ with_checkpoint j machine at

-- one of the three has failed, after those before it
pub record Unfinished {D : Type 0} (p : Passage D) (machine : ℕ) (j j' : Journal) : Type 0 where
  pub at : Position
  pub is_begun : j.next ≡ Some at
  pub acts : Once p (Tore (other j.current.slot) at.at (ended j.current.identity at end_frame))
      ⊎ (Twice p (Wrote (other j.current.slot) at.at (ended j.current.identity at end_frame))
      (Unsynced (other j.current.slot))
      ⊎ Thrice p (Wrote (other j.current.slot) at.at (ended j.current.identity at end_frame))
      (Synced (other j.current.slot)) (Unturned (current_bytes (turned_to_begun j.current machine))))
  pub fit : IsFit j.current.identity at.place end_frame
  pub fit_current : IsFitCurrent (turned_to_begun j.current machine)
  pub going : j.has_failed ≡ false
  pub then_is : j' ≡ failed j

abbrev pub FinishGives : {D : Type 0} → Passage D → ℕ → Journal → Result (Unit {0}) JournalFault → Journal → Type 0
FinishGives p machine j (Ok done) j' = Finished p machine j j'
FinishGives p machine j (Err TooLong) j' = ⊥
FinishGives p machine j (Err Memory) j' = IsAsBefore p j j'
FinishGives p machine j (Err Full) j' = HasNoMore j × IsAsBefore p j j'
FinishGives p machine j (Err NoCheckpoint) j' = (j.next ≡ None) × IsAsBefore p j j'
FinishGives p machine j (Err Failed) j' = HadFailed p j j' ⊎ Unfinished p machine j j'

-- ---- opening a journal after a start

-- The last frame is written again, with zero bytes after it. Then its file is synced, and CURRENT is replaced by the
-- same bytes. Only then the journal is open.
abbrev pub ResumeGives : {D : Type 0} → Passage D → Current → Position → ℕ → Bytes
    → Result Journal JournalFault → Type 0
ResumeGives p c position last_at last (Ok j) =
    Thrice p (Wrote c.slot last_at (last ++ wiped)) (Synced c.slot) (Turned (current_bytes c))
    × IsFitCurrent c × (j ≡ resumed c position)
ResumeGives p c position last_at last (Err TooLong) = ⊥
ResumeGives p c position last_at last (Err Memory) = Unchanged p
ResumeGives p c position last_at last (Err Full) = ⊥
ResumeGives p c position last_at last (Err NoCheckpoint) = ⊥
ResumeGives p c position last_at last (Err Failed) =
    Once p (Tore c.slot last_at (last ++ wiped))
    ⊎ (Twice p (Wrote c.slot last_at (last ++ wiped)) (Unsynced c.slot)
    ⊎ (Thrice p (Wrote c.slot last_at (last ++ wiped)) (Synced c.slot) (Unturned (current_bytes c))
    × IsFitCurrent c))
