-- The document of an `Outline` of the program.
use Rattle.std.specs.Prelude.{◌≡◌, ◌⊎◌, ℕ, ℤ, List, map, Option, Some, None, option_map, Result, Ok, Err}
use Rattle.std.specs.Borrow.{Bor}
use Rattle.std.specs.Map.{keys_of}
use Rattle.std.specs.List.Sorted.{IsStrictlySortedBy}
use Rattle.std.specs.Ordering.{nat_cmp}
use Rattle.std.specs.Cmp.Lexicographic.{slice_cmp}
use Rattle.who_book.specs.Document as document
use Rattle.who_book.specs.Members.{Rolls}
use Rattle.who_book.specs.declared.outline.Row.{Row}
use Rattle.who_book.specs.declared.rolls.Roll.{Roll}
use Rattle.who_book.specs.declared.outline.Outline.{Outline}
use Rattle.who_book.specs.declared.fault.BookFault.{BookFault}
use Rattle.who_book.specs.declared.fault.BookFault.TheVariants.{Shape, Memory}

abbrev pub rows_of : List Row → List (List ℕ × ℤ)
rows_of rows = map (λ row. (row.name.now, row.number)) rows

-- the texts that some references point to
abbrev pub texts_of : List (Bor (List ℕ)) → List (List ℕ)
texts_of texts = map (λ text. text.now) texts

abbrev pub rolls_of : List Roll → Rolls
rolls_of rolls = map (λ roll. (roll.group.now, texts_of roll.users.items)) rolls

abbrev pub outline_of : Outline → document.Outline
outline_of outline = record {
  domain = outline.domain.now;
  root_owner = outline.root_owner;
  root_group = outline.root_group;
  root_mode = outline.root_mode;
  users = rows_of outline.users.items;
  groups = rows_of outline.groups.items;
  members = option_map (λ rolls. rolls_of rolls.items) outline.members;
}

-- the names ascend
abbrev pub IsAscending : {A : Type 0} → List (List ℕ × A) → Type 0
IsAscending rows = IsStrictlySortedBy (slice_cmp nat_cmp) (keys_of rows)

-- the result of a step before the ranges are checked: the document, else Shape, unless an allocation fails
abbrev pub Finds : {T A : Type 0} → (T → A) → Result T BookFault → Option A → Type 0
Finds states (Ok x) found = found ≡ Some (states x)
Finds states (Err fault) found = (fault ≡ Memory) ⊎ ((fault ≡ Shape) × (found ≡ None))
