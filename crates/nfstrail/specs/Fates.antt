-- How a line of a trail's file is handled: it isn't understood, it is left out, or it is chosen.
use Rattle.std.specs.Prelude.{◌≡◌, ⊤, ℕ, Bool, true, false, if◌then◌else◌, List, [], ◌∷◌, ◌++◌, codes, Option}
use Rattle.std.specs.Bool.{OnTrue}
use Rattle.std.specs.Io.KnownBytes.{Appends}
use Rattle.nfstrail.specs.Reading.{IsTextOf}
use Rattle.nfstrail.specs.Choosing.{takes}
use Rattle.nfstrail.specs.declared.choice.Choice.{Choice}
use Rattle.nfstrail.specs.declared.fate.Fate.{Fate}
use Rattle.nfstrail.specs.declared.fate.Fate.TheVariants.{Unread, LeftOut, Chosen}

-- A line is left out only if it is the text of a value that doesn't match. It is chosen only if it is the text of a
-- value that matches.
abbrev pub IsFate : Choice → List ℕ → Fate → Type 0
IsFate choice text Unread = ⊤
IsFate choice text (LeftOut stamped) = IsTextOf stamped text × (takes choice stamped ≡ false)
IsFate choice text (Chosen stamped) = IsTextOf stamped text × (takes choice stamped ≡ true)

-- a text after these words, or unchanged without them
abbrev pub marked : Bool → List ℕ → List ℕ → List ℕ
marked raw words text = if raw then text else words ++ text

-- the bytes after the last newline, which are no line: they are written completely after a mark, or unchanged without
-- a newline
abbrev pub torn : Bool → List ℕ → List ℕ
torn raw text = if raw then text else marked raw (codes "not ended: ") text ++ 10 ∷ []

-- A line is passed without its newline. One that isn't understood is written completely, after its mark. One that is
-- left out isn't written. One that matches is written unchanged, if that is requested.
abbrev pub IsWritten : Bool → Fate → List ℕ → Option (List ℕ) → Option (List ℕ) → Type 0
IsWritten raw Unread text held held' = Appends held held' (marked raw (codes "not understood: ") text ++ 10 ∷ [])
IsWritten raw (LeftOut stamped) text held held' = held' ≡ held
IsWritten raw (Chosen stamped) text held held' = OnTrue raw (Appends held held' (text ++ 10 ∷ []))

-- it is handled in one of these ways, and is written accordingly
abbrev pub IsPrinted : Bool → Choice → List ℕ → Option (List ℕ) → Option (List ℕ) → Type 0
IsPrinted raw choice text held held' = (fate : Fate) × IsFate choice text fate × IsWritten raw fate text held held'
