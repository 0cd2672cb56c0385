-- Two states of clients are equal.
use Rattle.std.specs.Prelude.{ℕ, min, Option, Some, None}

-- the lesser of two numbers
abbrev pub first_of : Option ℕ → Option ℕ → Option ℕ
first_of (Some m) (Some n) = Some (min m n)
first_of (Some m) None = Some m
first_of None o = o
