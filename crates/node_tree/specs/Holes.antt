-- The holes of a file.
use Rattle.std.specs.Prelude.{ℕ, ◌≡◌, ◌<◌, ◌≤◌, List, slice_index}

-- each byte from one place up to another is 0
abbrev pub IsHole : List ℕ → (from to : ℕ) → Type 0
IsHole bytes from to = (i : ℕ) → from ≤ i → i < to → slice_index bytes i ≡ 0
