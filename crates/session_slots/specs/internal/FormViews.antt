-- The values that were read from the bytes of a checkpoint or a record, as the definitions see them.
use Rattle.std.specs.Prelude.{ℕ, Bool, not, nat_le, List}
use Rattle.std.specs.List.{list_any}

-- a group is greater than all of these
abbrev pub is_above : List ℕ → ℕ → Bool
is_above set group = not (list_any (λ g. nat_le group g) set)
