-- The content of a file: its frames, and in them a checkpoint and the records after it.
use Rattle.std.specs.Prelude.{◌≡◌, ◌==◌, ◌<◌, ◌*◌, ◌⊎◌, ℕ, Bool, true, false, List, [], ◌∷◌, ◌++◌, length, drop}
use Rattle.std.specs.Prelude.{if◌then◌else◌, Option, Some, None, Ok, Err}
use Rattle.xdr_wire.specs.Xdr.{hyper}
use Rattle.xdr_wire.specs.Reading.{Read, read_at}
use Rattle.store_journal.specs.declared.checksum.Identity.{Identity}
use Rattle.store_journal.specs.declared.frames.Place.{Place}
use Rattle.store_journal.specs.declared.head.Head.{Head}
use Rattle.store_journal.specs.Current.{VERSION}
use Rattle.store_journal.specs.Disk.{Bytes}
use Rattle.store_journal.specs.Frames.{Frame, END, MARK, start, place_after, frame_at, head_at, FramesAt, Holds}

-- the parts of a checkpoint, and the records after it
pub record Content : Type 0 where
  pub parts : List Bytes
  pub records : List Bytes

-- a mark is no record
abbrev pub records_in : List Frame → List Bytes
records_in [] = []
records_in (f ∷ frames) = if f.kind == MARK then records_in frames else f.body ∷ records_in frames

abbrev pub with_part : Bytes → Option Content → Option Content
with_part part None = None
with_part part (Some x) = Some (record { parts = part ∷ x.parts; records = x.records })

-- The frames before the first end frame are the parts, and those after it the records. Without an end frame the
-- checkpoint isn't complete, and the content is `None`.
abbrev pub contents : List Frame → Option Content
contents [] = None
contents (f ∷ frames) =
    if f.kind == END then Some (record { parts = []; records = records_in frames })
    else with_part f.body (contents frames)

-- ---- after the frames

abbrev pub is_zero : Read ℕ → Bool
is_zero (Ok x) = x.0 == 0
is_zero (Err e) = false

-- the bytes begin with the end of the log, a version of 0
unfoldable pub is_ended : Bytes → Bool
is_ended rest = is_zero (read_at hyper rest)

-- The bytes begin with the head of a later frame of the same generation. It was written only after all frames before
-- it were synced.
pub record LaterAt (id : Identity) (p : Place) (bytes : Bytes) : Type 0 where
  pub head : Head
  pub at : head_at id bytes ≡ Some head
  pub version : head.version ≡ VERSION
  pub generation : head.generation ≡ p.generation
  pub number : p.number < head.number

-- the head of a later frame is at a multiple of four bytes
pub record Later (id : Identity) (p : Place) (rest : Bytes) : Type 0 where
  pub place : ℕ
  pub later : LaterAt id p (drop (4 * place) rest)

-- A durable frame is corrupt or missing: no end of the log is here, and the head of a later frame follows.
pub record IsRotten (id : Identity) (p : Place) (rest : Bytes) : Type 0 where
  pub open_end : is_ended rest ≡ false
  pub later : Later id p rest

-- ---- while reading

-- the content that was read of a file whose checkpoint is complete, or isn't
abbrev pub if_whole : Bool → List Bytes → List Bytes → Option Content
if_whole true parts records = Some (record { parts = parts; records = records })
if_whole false parts records = None

-- the last of these frames has these bytes, at offset `at`
pub record LastFrame (id : Identity) (p : Place) (file : Bytes) (frames : List Frame) (rest : Bytes) (at : ℕ)
    (bytes : Bytes) : Type 0 where
  pub others : List Frame
  pub last : Frame
  pub frames_are : frames ≡ others ++ last ∷ []
  pub before : Bytes
  pub file_is : file ≡ before ++ (bytes ++ rest)
  pub at_is : at ≡ length before
  pub others_are : FramesAt id p others file (bytes ++ rest)
  pub last_is : frame_at id (place_after id p others) (bytes ++ rest) ≡ Some (last, rest)

-- The result of reading a file: its frames, the place after them, and the bytes after them. It also has whether the
-- checkpoint is complete, its parts, and the records. The last frame is at offset `at`.
pub record IsRead (id : Identity) (generation : ℕ) (file : Bytes) (place : Place) (rest : Bytes) (at : ℕ)
    (whole : Bool) (parts records : List Bytes) : Type 0 where
  pub frames : List Frame
  pub holds : Holds id (start generation) file frames rest
  pub place_is : place ≡ place_after id (start generation) frames
  pub last : (frames ≡ []) ⊎ ((bytes : Bytes) × LastFrame id (start generation) file frames rest at bytes)
  pub content : contents frames ≡ if_whole whole parts records
