-- The frames of a file, one after the other. Each is a struct of a head, its checksum and a body (RFC 4506, section
-- 4.14), and has the checksum of the frame before it.
use Rattle.std.specs.Prelude.{◌≡◌, ◌==◌, ◌+◌, ℕ, Bool, false, List, [], ◌∷◌, length, replicate}
use Rattle.std.specs.Prelude.{if◌then◌else◌, Option, Some, None, Ok, Err}
use Rattle.xdr_wire.specs.Xdr.{Xdr, Value, hyper, opaque, pair, HasSpelling, spelling}
use Rattle.xdr_wire.specs.Reading.{Read, read_at}
use Rattle.store_journal.specs.declared.checksum.Identity.{Identity}
use Rattle.store_journal.specs.declared.frames.Frame.{Frame as Lent}
use Rattle.store_journal.specs.declared.frames.Frames.{Frames}
use Rattle.store_journal.specs.declared.frames.Place.{Place}
use Rattle.store_journal.specs.declared.head.Head.{Head}
use Rattle.store_journal.specs.Current.{VERSION}
use Rattle.store_journal.specs.Checksum.{checksum, head_checksum}
use Rattle.store_journal.specs.Disk.{Bytes}

-- the most bytes of a body
abbrev pub MAX_BODY : ℕ
MAX_BODY = 67108864

-- the kinds of frames: a part of the checkpoint, its end, a record, and a mark that everything before it is durable
abbrev pub PART : ℕ
PART = 0

abbrev pub END : ℕ
END = 1

abbrev pub RECORD : ℕ
RECORD = 2

abbrev pub MARK : ℕ
MARK = 3

-- Zero bytes end the log, since no frame has version 0. The next frame is written over them.
abbrev pub log_end : Bytes
log_end = replicate 8 0

-- A start zeroes as many bytes as a head has. A frame that an earlier program lost therefore never becomes valid again.
unfoldable pub wiped : Bytes
wiped = replicate 64 0

abbrev pub head_form : Xdr
head_form = pair hyper (pair hyper (pair hyper (pair hyper (pair hyper (pair hyper hyper)))))

abbrev pub head_value : Head → Value head_form
head_value h = (h.version, (h.generation, (h.number, (h.before, (h.kind, (h.length, h.body))))))

abbrev pub head_of : Value head_form → Head
head_of v = record {
  version = v.0;
  generation = v.1.0;
  number = v.1.1.0;
  before = v.1.1.1.0;
  kind = v.1.1.1.1.0;
  length = v.1.1.1.1.1.0;
  body = v.1.1.1.1.1.1;
}

-- the part of a frame after its head
abbrev pub tail_form : Xdr
tail_form = pair hyper (opaque MAX_BODY)

abbrev pub form : Xdr
form = pair head_form tail_form

pub record Frame : Type 0 where
  pub kind : ℕ
  pub body : Bytes

abbrev pub frame_with : ℕ → Bytes → Frame
frame_with kind body = record { kind = kind; body = body }

-- a frame whose body is borrowed
abbrev pub lent : Lent → Frame
lent f = record { kind = f.kind; body = f.body.now }

-- the place of a generation's first frame
abbrev pub start : ℕ → Place
start generation = record { generation = generation; number = 0; before = 0 }

abbrev pub head_for : Identity → Place → Frame → Head
head_for id p f = record {
  version = VERSION;
  generation = p.generation;
  number = p.number;
  before = p.before;
  kind = f.kind;
  length = length f.body;
  body = checksum id f.body;
}

abbrev pub frame_value : Identity → Place → Frame → Value form
frame_value id p f = (head_value (head_for id p f), (head_checksum id (head_for id p f), f.body))

-- the bytes of a frame in its file
unfoldable pub framed : Identity → Place → Frame → Bytes
framed id p f = spelling form (frame_value id p f)

-- the frame can be written
unfoldable pub IsFit : Identity → Place → Frame → Type 0
IsFit id p f = HasSpelling form (frame_value id p f)

-- the place after a frame
abbrev pub next_place : Identity → Place → Frame → Place
next_place id p f = record {
  generation = p.generation;
  number = p.number + 1;
  before = head_checksum id (head_for id p f);
}

-- the place after frames
abbrev pub place_after : Identity → Place → List Frame → Place
place_after id p [] = p
place_after id p (f ∷ frames) = place_after id (next_place id p f) frames

-- ---- reading

-- whether a head and a body have this place and matching checksums
abbrev pub in_place : Identity → Place → Head → ℕ → Bytes → Bool
in_place id p h d body =
    if d == head_checksum id h then
    (if h.version == VERSION then
    (if h.generation == p.generation then
    (if h.number == p.number then
    (if h.before == p.before then (if h.length == length body then h.body == checksum id body else false) else false)
    else false)
    else false)
    else false)
    else false

abbrev pub frame_of : Head → Bytes → Frame
frame_of h body = record { kind = h.kind; body = body }

abbrev pub fitting : Identity → Place → Read (Value form) → Option (Frame × Bytes)
fitting id p (Ok x) =
    if in_place id p (head_of x.0.0) x.0.1.0 x.0.1.1 then Some (frame_of (head_of x.0.0) x.0.1.1, x.1) else None
fitting id p (Err e) = None

-- The frame of this place at the start of the bytes, and the bytes after it. `None`: the bytes don't begin with a valid
-- frame of this version and place.
unfoldable pub frame_at : Identity → Place → Bytes → Option (Frame × Bytes)
frame_at id p bytes = fitting id p (read_at form bytes)

-- The bytes begin with these frames, one after the other, the first at this place. Then the rest follows.
abbrev pub FramesAt : Identity → Place → List Frame → Bytes → Bytes → Type 0
FramesAt id p [] bytes rest = rest ≡ bytes
FramesAt id p (f ∷ frames) bytes rest =
    (after : Bytes) × (frame_at id p bytes ≡ Some (f, after)) × FramesAt id (next_place id p f) frames after rest

-- These are all frames of the bytes: no valid next frame is at the start of the rest.
pub record Holds (id : Identity) (p : Place) (bytes : Bytes) (frames : List Frame) (rest : Bytes) : Type 0 where
  pub frames_at : FramesAt id p frames bytes rest
  pub no_more : frame_at id (place_after id p frames) rest ≡ None

-- The next frame is taken from the bytes. If none is left, the bytes stay.
abbrev pub Takes : Frames → Option Lent → Frames → Type 0
Takes old (Some f) new =
    (frame_at old.identity old.place old.rest.now ≡ Some (lent f, new.rest.now))
    × (new.place ≡ next_place old.identity old.place (lent f))
Takes old None new =
    (frame_at old.identity old.place old.rest.now ≡ None) × (new.rest.now ≡ old.rest.now) × (new.place ≡ old.place)

-- ---- heads alone

-- a head that was read, if its checksum matches
abbrev pub fitting_head : Identity → Read (Value (pair head_form hyper)) → Option Head
fitting_head id (Ok x) = if x.0.1 == head_checksum id (head_of x.0.0) then Some (head_of x.0.0) else None
fitting_head id (Err e) = None

-- the head at the start of the bytes, if its checksum matches
unfoldable pub head_at : Identity → Bytes → Option Head
head_at id bytes = fitting_head id (read_at (pair head_form hyper) bytes)
