-- The place of the operation whose allocation failed in a replay (RFC 8881, section 15.1.1.3).
use Rattle.std.specs.Prelude.{◌<◌, ℕ, Option, Some, None}

-- An operation failed an allocation. It is before the one that the record names, or the record names none.
abbrev pub IsEarlier : Option ℕ → Option ℕ → Type 0
IsEarlier None place = ⊥
IsEarlier (Some m) None = Unit {0}
IsEarlier (Some m) (Some n) = m < n
