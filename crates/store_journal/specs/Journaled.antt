-- A journal after all acts that were ever done with its disk, and what a start finds of it after a crash.
use Rattle.std.specs.Prelude.{◌≡◌, ◌≢◌, ◌⊎◌, ◌≤◌, ℕ, false, List, [], ◌∷◌, ◌++◌, length, Option, Some, None, Ok}
use Rattle.store_journal.specs.declared.current.Current.{Current}
use Rattle.store_journal.specs.declared.disk.Slot.{Slot}
use Rattle.store_journal.specs.declared.disk.Slot.TheVariants.{A, B}
use Rattle.store_journal.specs.declared.frames.Place.{Place}
use Rattle.store_journal.specs.declared.writing.Position.{Position}
use Rattle.store_journal.specs.Crash.{IsPrefix, Phase, Settled, IsWritten, Collision}
use Rattle.store_journal.specs.Current.{current_in, current_bytes, IsFitCurrent}
use Rattle.store_journal.specs.Disk.{Bytes, Act, on_disk, on_current, MayLeave, MayRead}
use Rattle.store_journal.specs.Files.{Content, contents, records_in}
use Rattle.store_journal.specs.Frames.{Frame, place_after, start}
use Rattle.store_journal.specs.Opening.{Chooses, IsCorrupt}

-- A log is a generation with a complete checkpoint: its CURRENT, its frames, and the content of the durable ones.
pub record Log : Type 0 where
  pub current : Current
  pub kept : List Frame
  pub later : List Frame
  pub content : Content
  -- the number of bytes before the next frame
  pub at : ℕ
  pub phase : Phase

-- after these acts the file has the log's frames, and at most one may be unsynced
pub record IsLog (log : Log) (acts : List Act) : Type 0 where
  pub written : IsWritten log.current.identity log.current.generation log.kept log.later log.at log.phase
      (on_disk log.current.slot acts)
  pub few : length log.later ≤ 1
  pub whole : contents log.kept ≡ Some log.content
  pub finished : log.current.generation ≢ 0

-- the position of its next frame
abbrev pub place_of : Log → Place
place_of log = place_after log.current.identity (start log.current.generation) (log.kept ++ log.later)

abbrev pub position_of : Log → Position
position_of log = record { place = place_of log; at = log.at }

-- CURRENT with another number of the last begun generation
abbrev pub at_begun : Current → ℕ → Current
at_begun c begun = record {
  identity = c.identity;
  generation = c.generation;
  begun = begun;
  slot = c.slot;
  machine = c.machine;
}

-- if this CURRENT is found this log is active; or no checkpoint was finished yet
abbrev pub Names : List Act → Option Log → Option Bytes → Type 0
Names acts None None = ((on_disk A acts).touched ≡ false) × ((on_disk B acts).touched ≡ false)
Names acts None (Some bytes) =
    (c : Current) × (bytes ≡ current_bytes c) × IsFitCurrent c × (c.generation ≡ 0)
Names acts (Some log) None = ⊥
Names acts (Some log) (Some bytes) =
    (begun : ℕ) × (bytes ≡ current_bytes (at_begun log.current begun)) × IsFitCurrent (at_begun log.current begun)

abbrev pub IsIn : {X : Type 0} → X → List X → Type 0
IsIn x [] = ⊥
IsIn x (y ∷ ys) = (x ≡ y) ⊎ IsIn x ys

-- this CURRENT names one of these logs
pub record NamesOne (logs : List (Option Log)) (acts : List Act) (found : Option Bytes) : Type 0 where
  pub log : Option Log
  pub of_these : IsIn log logs
  pub names : Names acts log found

-- After these acts one of these logs is active, whichever CURRENT a crash leaves. Two logs may be active while
-- CURRENT is being replaced, or after that failed. `None`: no checkpoint was finished yet.
pub record IsJournal (logs : List (Option Log)) (acts : List Act) : Type 0 where
  pub named : (found : Option Bytes) → MayRead (on_current acts) found → NamesOne logs acts found
  pub written : (log : Log) → IsIn (Some log) logs → IsLog log acts

-- ---- the content that a start finds

abbrev pub in_slot : {X : Type 0} → Slot → X → X → X
in_slot A x y = x
in_slot B x y = y

abbrev pub HasCollision : Log → Bytes → Type 0
HasCollision log file = Collision log.current.identity log.current.generation log.kept log.later log.phase file

-- the checkpoint, all durable records, and a prefix of the later ones
pub record HasAll (log : Log) (content : Option Content) : Type 0 where
  pub prefix : List Frame
  pub of_later : IsPrefix prefix log.later
  pub content_is : content ≡ Some (record {
    parts = log.content.parts;
    records = log.content.records ++ records_in prefix;
  })

-- **Barring a checksum collision, the content that is chosen from the file is the checkpoint, all durable records and a
-- prefix of the later ones. The file isn't refused as corrupt.**
pub record Survives (log : Log) (c : Current) (file : Bytes) : Type 0 where
  pub chosen : (content : Option Content) (position : Position) (at : ℕ) (bytes : Bytes)
      → Chooses c file content position at bytes → HasAll log content ⊎ HasCollision log file
  pub sound : IsCorrupt c file → HasCollision log file

-- CURRENT is intact, and the log that it names survives
abbrev pub Opens : Option Log → Option Bytes → Bytes → Bytes → Type 0
Opens None None a b = (a ≡ []) × (b ≡ [])
Opens None (Some bytes) a b = (c : Current) × (current_in bytes ≡ Ok c) × (c.generation ≡ 0)
Opens (Some log) None a b = ⊥
Opens (Some log) (Some bytes) a b =
    (begun : ℕ) × (current_in bytes ≡ Ok (at_begun log.current begun))
    × Survives log (at_begun log.current begun) (in_slot log.current.slot a b)

pub record OpensOne (logs : List (Option Log)) (found : Option Bytes) (a b : Bytes) : Type 0 where
  pub log : Option Log
  pub of_these : IsIn log logs
  pub opens : Opens log found a b

-- **A crash leaves one of the logs.**
abbrev pub CrashLaw : Type 0
CrashLaw =
    (logs : List (Option Log)) (acts : List Act) → IsJournal logs acts
    → (found : Option Bytes) → MayRead (on_current acts) found
    → (a b : Bytes) → MayLeave (on_disk A acts) a → MayLeave (on_disk B acts) b
    → OpensOne logs found a b

-- **When everything is synced, no checksum collision is possible.**
abbrev pub SettledLaw : Type 0
SettledLaw = (log : Log) (file : Bytes) → log.phase ≡ Settled → HasCollision log file → ⊥
