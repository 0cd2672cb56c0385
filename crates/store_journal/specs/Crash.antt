-- A file to which frames are written, after a crash.
use Rattle.std.specs.Prelude.{◌≡◌, ◌⊎◌, ◌<◌, ℕ, List, [], ◌∷◌, ◌++◌, length, drop, Some}
use Rattle.store_journal.specs.declared.checksum.Identity.{Identity}
use Rattle.store_journal.specs.declared.frames.Place.{Place}
use Rattle.store_journal.specs.declared.head.Head.{Head}
use Rattle.store_journal.specs.Current.{VERSION}
use Rattle.store_journal.specs.Disk.{Bytes, FileState}
use Rattle.store_journal.specs.Frames.{Frame, frame_at, head_at, log_end, place_after, start, FramesAt}

-- `prefix` is a prefix of `all`
pub record IsPrefix {X : Type 0} (prefix all : List X) : Type 0 where
  pub more : List X
  pub is : all ≡ prefix ++ more

-- the bytes are exactly these frames, whatever bytes follow
abbrev pub AreOf : Identity → Place → List Frame → Bytes → Type 0
AreOf id p frames bytes = (rest : Bytes) → FramesAt id p frames (bytes ++ rest) rest

pub data Phase : Type 0 where
  -- everything that was written is durable, and the end of the log with it
  Settled : Phase
  -- frames may be unsynced, and the end of the log is after them
  Going : Phase
  -- frames may be unsynced: a call failed, or nothing was written yet since a start
  Stuck : Phase

-- a read may have returned bytes that are not durable
abbrev pub after_start : Phase → Phase
after_start Settled = Settled
after_start Going = Stuck
after_start Stuck = Stuck

-- `all` begins with these bytes and the end of the log
pub record EndsLog (bytes all : Bytes) : Type 0 where
  pub more : Bytes
  pub is : all ≡ bytes ++ (log_end ++ more)

-- how a file has the bytes of its durable and its unsynced frames, by its phase
abbrev pub IsStoredAs : Phase → Bytes → Bytes → FileState → Type 0
IsStoredAs Settled kept later d = (later ≡ []) × EndsLog kept d.safe × (d.now ≡ d.safe)
IsStoredAs Going kept later d = EndsLog (kept ++ later) d.now
IsStoredAs Stuck kept later d = Unit {0}

-- The file has frames of a generation: first the durable ones, `kept`, and then those that may be unsynced, `later`.
pub record IsWritten (id : Identity) (generation : ℕ) (kept later : List Frame) (at : ℕ) (phase : Phase)
    (d : FileState) : Type 0 where
  pub kept_bytes : Bytes
  pub later_bytes : Bytes
  pub kept_are : AreOf id (start generation) kept kept_bytes
  pub later_are : AreOf id (place_after id (start generation) kept) later later_bytes
  pub safe : IsPrefix kept_bytes d.safe
  pub stored : IsStoredAs phase kept_bytes later_bytes d
  pub at_is : at ≡ length (kept_bytes ++ later_bytes)
  pub none_later : phase ≡ Settled → later ≡ []

-- ---- checksum collisions

-- Torn bytes parse as a frame by a checksum collision. After a prefix of the later frames comes another frame than
-- the next of them, at its place, with matching checksums.
pub record FrameCollision (id : Identity) (p : Place) (later : List Frame) (tail : Bytes) : Type 0 where
  pub prefix : List Frame
  pub left : List Frame
  pub parts : later ≡ prefix ++ left
  pub stray : Bytes
  pub frames_at : FramesAt id p prefix tail stray
  pub frame : Frame
  pub after : Bytes
  pub fits : frame_at id (place_after id p prefix) stray ≡ Some (frame, after)
  pub differs : (others : List Frame) → left ≡ frame ∷ others → ⊥

-- Torn bytes parse as a head by a checksum collision. Its checksum matches, its generation is this one, and no frame
-- of its number was ever written. After the durable frames at most one frame is written, at this place, until it is
-- durable too.
pub record HeadCollision (id : Identity) (p : Place) (tail : Bytes) : Type 0 where
  pub place : ℕ
  pub head : Head
  pub fits : head_at id (drop place tail) ≡ Some head
  pub version : head.version ≡ VERSION
  pub generation : head.generation ≡ p.generation
  pub never : p.number < head.number

-- A checksum collision in what a crash left after the durable frames, while a frame may have been unsynced.
pub record Collision (id : Identity) (generation : ℕ) (kept later : List Frame) (phase : Phase) (file : Bytes)
    : Type 0 where
  pub tail : Bytes
  pub follows : FramesAt id (start generation) kept file tail
  pub loose : phase ≡ Settled → ⊥
  pub collision : FrameCollision id (place_after id (start generation) kept) later tail
      ⊎ HeadCollision id (place_after id (start generation) kept) tail
