-- The effect of each act of a call on a journal.
use Rattle.std.specs.Prelude.{◌≡◌, ◌≢◌, ◌⊎◌, ◌+◌, ℕ, List, [], ◌∷◌, ◌++◌, length, Option, Some, None}
use Rattle.store_journal.specs.declared.current.Current.{Current}
use Rattle.store_journal.specs.declared.checksum.Identity.{Identity}
use Rattle.store_journal.specs.declared.disk.Slot.{Slot}
use Rattle.store_journal.specs.declared.writing.Position.{Position}
use Rattle.store_journal.specs.Crash.{IsPrefix, Phase, Settled, Going, Stuck, IsWritten, after_start}
use Rattle.store_journal.specs.Disk.{Bytes, Act, Read, Unread, Found, Unfound, Wrote, Tore, Synced, Unsynced}
use Rattle.store_journal.specs.Disk.{Turned, Unturned, other, on_disk, on_current, MayLeave, MayRead}
use Rattle.store_journal.specs.Files.{Content, contents, records_in}
use Rattle.store_journal.specs.Frames.{Frame, framed, IsFit, log_end, place_after, start, wiped}
use Rattle.store_journal.specs.Journaled.{Log, IsLog, IsIn, IsJournal, Names, at_begun, HasCollision, place_of}
use Rattle.store_journal.specs.Journaled.{position_of}
use Rattle.store_journal.specs.Opening.{Chooses}
use Rattle.store_journal.specs.Writing.{ended, next_position}

-- ---- changes of a log

abbrev pub with_phase : Log → Phase → Log
with_phase log phase = record {
  current = log.current;
  kept = log.kept;
  later = log.later;
  content = log.content;
  at = log.at;
  phase = phase;
}

-- these frames may be unsynced after the durable ones
abbrev pub with_later : Log → List Frame → ℕ → Phase → Log
with_later log later at phase = record {
  current = log.current;
  kept = log.kept;
  later = later;
  content = log.content;
  at = at;
  phase = phase;
}

-- one more frame is written
abbrev pub with_one : Log → Frame → Phase → Log
with_one log f phase = with_later log (f ∷ []) (log.at + length (framed log.current.identity (place_of log) f)) phase

-- all its frames are durable
abbrev pub all_kept : Log → Log
all_kept log = record {
  current = log.current;
  kept = log.kept ++ log.later;
  later = [];
  content = record {
    parts = log.content.parts;
    records = log.content.records ++ records_in log.later;
  };
  at = log.at;
  phase = Settled;
}

-- ---- an open journal

-- CURRENT is on the disk, and the other logs are in the other file
pub record AreApart (log : Log) (others : List (Option Log)) (acts : List Act) : Type 0 where
  pub there : MayRead (on_current acts) None → ⊥
  pub elsewhere : (o : Log) → IsIn (Some o) others → o.current.slot ≡ other log.current.slot

-- if everything is synced, one more frame may be unsynced after its write, also after one that failed
abbrev pub FrameLaw : Type 0
FrameLaw =
    (log : Log) (others : List (Option Log)) (acts : List Act) (f : Frame)
    → IsJournal (Some log ∷ others) acts → AreApart log others acts → log.phase ≡ Settled
    → IsFit log.current.identity (place_of log) f
    → IsJournal (Some (with_one log f Going) ∷ others)
    (Wrote log.current.slot log.at (ended log.current.identity (position_of log) f) ∷ acts)
    × IsJournal (Some (with_one log f Stuck) ∷ others)
    (Tore log.current.slot log.at (ended log.current.identity (position_of log) f) ∷ acts)
    × (position_of (with_one log f Going) ≡ next_position log.current.identity (position_of log) f)

-- after a sync all frames are durable, and after one that failed only those that were
abbrev pub SyncLaw : Type 0
SyncLaw =
    (log : Log) (others : List (Option Log)) (acts : List Act)
    → IsJournal (Some log ∷ others) acts → AreApart log others acts → log.phase ≡ Going
    → IsJournal (Some (all_kept log) ∷ others) (Synced log.current.slot ∷ acts)
    × IsJournal (Some (with_phase log Stuck) ∷ others) (Unsynced log.current.slot ∷ acts)
    × (position_of (all_kept log) ≡ position_of log)

-- ---- CURRENT

-- After CURRENT is replaced by one that names a log, only that log may be active. If replacing it failed, the same
-- logs as before may be active.
abbrev pub TurnLaw : Type 0
TurnLaw =
    (logs : List (Option Log)) (acts : List Act) (log : Option Log) (bytes : Bytes)
    → IsJournal logs acts → IsIn log logs → Names acts log (Some bytes)
    → IsJournal (log ∷ []) (Turned bytes ∷ acts) × IsJournal logs (Unturned bytes ∷ acts)

-- a complete log may be added to those that may be active
abbrev pub AdmitLaw : Type 0
AdmitLaw =
    (logs : List (Option Log)) (acts : List Act) (log : Log)
    → IsJournal logs acts → IsLog log acts → IsJournal (Some log ∷ logs) acts

-- ---- a checkpoint in the inactive file

-- the act writes to this file, or syncs it
abbrev pub IsOf : Slot → Act → Type 0
IsOf s (Read found) = ⊥
IsOf s Unread = ⊥
IsOf s (Found t bytes) = ⊥
IsOf s (Unfound t) = ⊥
IsOf s (Wrote t at bytes) = t ≡ s
IsOf s (Tore t at bytes) = t ≡ s
IsOf s (Synced t) = t ≡ s
IsOf s (Unsynced t) = t ≡ s
IsOf s (Turned bytes) = ⊥
IsOf s (Unturned bytes) = ⊥

-- acts on the inactive file leave the journal unchanged
abbrev pub OtherLaw : Type 0
OtherLaw =
    (s : Slot) (logs : List (Option Log)) (acts : List Act) (act : Act)
    → IsJournal logs acts → (MayRead (on_current acts) None → ⊥)
    → ((log : Log) → IsIn (Some log) logs → log.current.slot ≡ other s)
    → IsOf s act → IsJournal logs (act ∷ acts)

-- the first part is written over any bytes
abbrev pub FirstLaw : Type 0
FirstLaw =
    (id : Identity) (generation : ℕ) (s : Slot) (acts : List Act) (f : Frame) → IsFit id (start generation) f
    → IsWritten id generation [] (f ∷ []) (length (framed id (start generation) f)) Going
    (on_disk s (Wrote s 0 (framed id (start generation) f ++ log_end) ∷ acts))

-- each further part is written after the others
abbrev pub PartLaw : Type 0
PartLaw =
    (id : Identity) (generation : ℕ) (s : Slot) (parts : List Frame) (at : ℕ) (acts : List Act) (f : Frame)
    → IsWritten id generation [] parts at Going (on_disk s acts)
    → IsFit id (place_after id (start generation) parts) f
    → IsWritten id generation [] (parts ++ f ∷ [])
    (at + length (framed id (place_after id (start generation) parts) f)) Going
    (on_disk s (Wrote s at (framed id (place_after id (start generation) parts) f ++ log_end) ∷ acts))

-- the log of a generation whose frames are all durable
abbrev pub new_log : Current → List Frame → Content → ℕ → Log
new_log c frames content at = record {
  current = c;
  kept = frames;
  later = [];
  content = content;
  at = at;
  phase = Settled;
}

-- a complete checkpoint that is synced is a log
abbrev pub WholeLaw : Type 0
WholeLaw =
    (c : Current) (frames : List Frame) (content : Content) (at : ℕ) (acts : List Act)
    → IsWritten c.identity c.generation [] frames at Going (on_disk c.slot acts) → contents frames ≡ Some content
    → c.generation ≢ 0 → IsLog (new_log c frames content at) (Synced c.slot ∷ acts)

-- ---- a start

-- a folder in which nothing was ever done is a journal without a finished checkpoint
abbrev pub NewLaw : Type 0
NewLaw = IsJournal (None ∷ []) []

abbrev pub seen : Option Log → Option Log
seen None = None
seen (Some log) = Some (with_phase log (after_start log.phase))

abbrev pub all_seen : List (Option Log) → List (Option Log)
all_seen [] = []
all_seen (log ∷ logs) = seen log ∷ all_seen logs

-- reading changes nothing, except that what was read may not be durable
abbrev pub ReadLaw : Type 0
ReadLaw =
    (logs : List (Option Log)) (acts : List Act) → IsJournal logs acts
    → ((found : Option Bytes) → IsJournal logs (Read found ∷ acts)) × IsJournal logs (Unread ∷ acts)
    × ((s : Slot) → IsJournal logs (Unfound s ∷ acts))
    × ((s : Slot) (bytes : Bytes) → IsJournal (all_seen logs) (Found s bytes ∷ acts))

-- The last frame is written again. Then at most that frame may be unsynced, and the journal writes after it.
pub record Resumes (log : Log) (others : List (Option Log)) (acts : List Act) (content : Option Content)
    (position : Position) (last_at : ℕ) (last : Bytes) : Type 0 where
  pub prefix : List Frame
  pub of_later : IsPrefix prefix log.later
  pub content_is : content ≡ Some (all_kept (with_later log prefix position.at Going)).content
  pub position_is : position ≡ position_of (with_later log prefix position.at Going)
  pub wrote : IsJournal (Some (with_later log prefix position.at Going) ∷ others)
      (Wrote log.current.slot last_at (last ++ wiped) ∷ acts)
  pub tore : IsJournal (Some (with_later log prefix position.at Stuck) ∷ others)
      (Tore log.current.slot last_at (last ++ wiped) ∷ acts)

-- **What a start opens is a journal again**, barring a checksum collision.
abbrev pub ResumeLaw : Type 0
ResumeLaw =
    (log : Log) (others : List (Option Log)) (begun : ℕ) (acts : List Act) (file : Bytes) (content : Option Content)
    (position : Position) (last_at : ℕ) (last : Bytes)
    → IsJournal (Some log ∷ others) (Found log.current.slot file ∷ acts)
    → AreApart log others (Found log.current.slot file ∷ acts)
    → MayLeave (on_disk log.current.slot acts) file
    → Chooses (at_begun log.current begun) file content position last_at last
    → Resumes log others (Found log.current.slot file ∷ acts) content position last_at last ⊎ HasCollision log file
