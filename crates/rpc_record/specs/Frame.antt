-- The state of a framer: the record that has begun (RFC 5531, section 11).
use Rattle.std.specs.Prelude.{ℕ, Bool, List, length, nat_lt, ◌||◌}

pub record Frame : Type 0 where
  -- the first bytes of a header that isn't whole
  pub header : List ℕ
  -- the number of bytes of the open fragment that are left, and whether it is the last fragment of its record
  pub left : ℕ
  pub last : Bool
  -- the number of bytes of the record that have arrived
  pub joined : ℕ
  -- whether a header of the record has been read
  pub begun : Bool
  -- whether a header took its record above the limit
  pub broken : Bool

-- a header of the record has been read, or a part of one
abbrev pub is_inside : Frame → Bool
is_inside frame = frame.begun || nat_lt 0 (length frame.header)
