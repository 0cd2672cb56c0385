-- The epochs of the book: one for each book that a guarded tree has had.
use Rattle.std.specs.Prelude.{ℕ, ◌+◌, ◌^◌, if◌then◌else◌, Option, Some, None, nat_lt}

-- the first epoch
abbrev pub FIRST_EPOCH : ℕ
FIRST_EPOCH = 1

-- the epoch after this one; none follows from 2^63 on
abbrev pub next_epoch : ℕ → Option ℕ
next_epoch epoch = if nat_lt epoch (2 ^ 63) then Some (epoch + 1) else None
