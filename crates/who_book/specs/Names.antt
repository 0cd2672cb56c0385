-- A table of names: rows, each of which has a name and its number.
use Rattle.std.specs.Prelude.{◌≡◌, ℕ, ◌==◌, ◌≤◌, nat_lt, nat_le, Bool, true, not, ◌&&◌, List, length, Option}
use Rattle.std.specs.Prelude.{option_map}
use Rattle.std.specs.List.{find, list_any, list_all, IsDistinct}
use Rattle.std.specs.Map.{lookup, keys_of, values_of}
use Rattle.std.specs.Bool.{nat_eq}
use Rattle.std.specs.Char.{is_ascii_digit}
use Rattle.std.specs.Str.{bytes_eq}

-- a name is the bytes of its text
abbrev pub Rows : Type 0
Rows = List (List ℕ × ℕ)

-- the number of a name, by its exact bytes
abbrev pub number_at : List ℕ → Rows → Option ℕ
number_at name rows = lookup (bytes_eq name) rows

-- the name of a number
abbrev pub name_at : ℕ → Rows → Option (List ℕ)
name_at number rows = option_map (λ row. row.0) (find (λ row. row.1 == number) rows)

-- 64 is the character @
abbrev pub has_at : List ℕ → Bool
has_at bytes = list_any (λ byte. byte == 64) bytes

-- the number of bytes is from 1 to the limit, and none is an @
abbrev pub is_word : ℕ → List ℕ → Bool
is_word most bytes = (nat_lt 0 (length bytes) && nat_le (length bytes) most) && not (has_at bytes)

abbrev pub is_name : List ℕ → Bool
is_name bytes = is_word 64 bytes && not (list_all is_ascii_digit bytes)

-- no two rows have the same name, and no two have the same number
abbrev pub IsOneToOne : Rows → Type 0
IsOneToOne rows = IsDistinct bytes_eq (keys_of rows) × IsDistinct nat_eq (values_of rows)

-- the bounds of each table of a book
pub record IsTable (rows : Rows) : Type 0 where
  pub one_to_one : IsOneToOne rows
  pub named : list_all is_name (keys_of rows) ≡ true
  pub numbered : list_all (λ number. nat_le number 4294967295) (values_of rows) ≡ true
  pub few : length rows ≤ 1024
