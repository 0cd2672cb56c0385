-- Splits a text at the first or the last byte with a given value.
use Rattle.std.specs.Prelude.{ℕ, ◌==◌, if◌then◌else◌, List, [], ◌∷◌, Option, Some, None, option_map}

abbrev pub before : ℕ → List ℕ × List ℕ → List ℕ × List ℕ
before byte parts = (byte ∷ parts.0, parts.1)

-- the text before the first byte of this value, and the text after it
abbrev pub split_at : ℕ → List ℕ → Option (List ℕ × List ℕ)
split_at byte [] = None
split_at byte (first ∷ more) = if first == byte then Some ([], more) else option_map (before first) (split_at byte more)

-- at this byte, if it has the value and none after it has
abbrev pub or_here : ℕ → ℕ → List ℕ → Option (List ℕ × List ℕ) → Option (List ℕ × List ℕ)
or_here byte first more (Some parts) = Some (before first parts)
or_here byte first more None = if first == byte then Some ([], more) else None

-- the text before the last byte of this value, and the text after it
abbrev pub split_at_last : ℕ → List ℕ → Option (List ℕ × List ℕ)
split_at_last byte [] = None
split_at_last byte (first ∷ more) = or_here byte first more (split_at_last byte more)

-- the part before the first separator, or the whole text if it has none
abbrev pub prefix_or : List ℕ → Option (List ℕ × List ℕ) → List ℕ
prefix_or text None = text
prefix_or text (Some parts) = parts.0
