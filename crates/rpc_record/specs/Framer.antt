-- Which unfinished record a framer represents, and what a step reports of it (RFC 5531, section 11).
use Rattle.std.specs.Prelude.{◌≡◌, ◌≤◌, ◌<◌, ◌+◌, ◌↔◌, ℕ, false, IsTrue, List, [], ◌++◌, length, drop, slice_range, ◌⊎◌}
use Rattle.std.specs.Int.{w32}
use Rattle.xdr_wire.specs.Xdr.{IsNumber}
use Rattle.rpc_record.specs.Frame.{Frame}
use Rattle.rpc_record.specs.declared.framer.Step.{Step}
use Rattle.rpc_record.specs.declared.framer.Step.TheVariants.{Part, Record, NeedMore, Broken}
use Rattle.rpc_record.specs.Records.{limit, mark, AreOpen, joined, IsRecord, Breaks}

-- After whole fragments with these bodies, the tail is the header of a fragment and a prefix of its body.
pub record IsInBody (f : Frame) (content : List ℕ) (bodies : List (List ℕ)) (tail : List ℕ) : Type 0 where
  pub head : List ℕ
  pub part : List ℕ
  pub parts : tail ≡ head ++ part
  pub marked : IsNumber w32 (mark f.last (length part + f.left)) head
  pub content-is : content ≡ joined bodies ++ part
  pub no_header : f.header ≡ []

-- After whole fragments with these bodies, the tail is less than a header.
pub record IsInHeader (f : Frame) (content : List ℕ) (bodies : List (List ℕ)) (tail : List ℕ) : Type 0 where
  pub tail-is : tail ≡ f.header
  pub few : length f.header < 4
  pub content-is : content ≡ joined bodies

-- The framer has read these bytes of a record that isn't whole; `content` is the record so far.
pub record HasRead (f : Frame) (content bytes : List ℕ) : Type 0 where
  -- whole fragments, none of which is the last of its record, and the bytes after them
  pub bodies : List (List ℕ)
  pub prefix : List ℕ
  pub tail : List ℕ
  pub whole : bytes ≡ prefix ++ tail
  pub fragments : AreOpen bodies prefix
  pub in_body : 0 < f.left → IsInBody f content bodies tail
  pub in_header : f.left ≡ 0 → IsInHeader f content bodies tail
  pub count : length content ≡ f.joined
  pub within : f.joined + f.left ≤ limit
  pub unbroken : f.broken ≡ false
  pub begun : IsTrue f.begun ↔ (4 ≤ length bytes)

-- The result of a step on the record that began with these bytes, if the piece continues at `at`.
abbrev pub StepGives : Step → Frame → List ℕ → List ℕ → List ℕ → ℕ → Type 0
StepGives (Part from to) new content bytes piece at =
    HasRead new (content ++ slice_range piece from to) (bytes ++ slice_range piece at to)
StepGives (Record from to) new content bytes piece at =
    IsRecord (content ++ slice_range piece from to) (bytes ++ slice_range piece at to) × HasRead new [] []
StepGives NeedMore new content bytes piece at = HasRead new content (bytes ++ drop at piece)
StepGives Broken new content bytes piece at = Breaks (bytes ++ drop at piece)

-- A part or the end of a record is after `at` in the piece; the next step therefore continues further on.
abbrev pub IsWithin : Step → List ℕ → ℕ → Type 0
IsWithin (Part from to) piece at = (at ≤ from) × (from ≤ to) × (at < to) × (to ≤ length piece)
IsWithin (Record from to) piece at = (at ≤ from) × (from ≤ to) × (at < to) × (to ≤ length piece)
IsWithin NeedMore piece at = Unit {0}
IsWithin Broken piece at = Unit {0}

-- A part is all bytes of the fragment that the piece has: it ends with the piece or with the fragment.
abbrev pub TakesAll : Step → Frame → List ℕ → Type 0
TakesAll (Part from to) new piece = (to ≡ length piece) ⊎ (new.left ≡ 0)
TakesAll (Record from to) new piece = Unit {0}
TakesAll NeedMore new piece = Unit {0}
TakesAll Broken new piece = Unit {0}
