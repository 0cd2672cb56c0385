-- A line of a listing: type, mode, owner, group, size, name.
use Rattle.std.specs.Prelude.{ℕ, ◌<◌, ◌^◌, ◌==◌, Bool, false, ◌||◌, if◌then◌else◌, List, [], ◌∷◌, ◌++◌, Option, Some}
use Rattle.std.specs.Prelude.{None, option_and_then, option_map, decimal}
use Rattle.std.specs.List.{list_any}
use Rattle.nfs_client.specs.Digits.{mode_digits}
use Rattle.nfs_client.specs.declared.listing.Ends.{Ends}
use Rattle.nfs_client.specs.declared.listing.Ends.TheVariants.{Blanks, Zeros}

-- the known attributes of an entry
pub record Listed : Type 0 where
  pub kind : Option ℕ
  pub mode : Option ℕ
  pub owner : Option (List ℕ)
  pub group : Option (List ℕ)
  pub size : Option ℕ
  pub name : List ℕ

-- `?`, for an unknown attribute
abbrev pub unknown : List ℕ
unknown = 63 ∷ []

-- `-` for a file (1), `d` for a directory (2), `l` for a link (5)
abbrev pub kind_text : Option ℕ → List ℕ
kind_text (Some kind) =
    if kind == 1 then 45 ∷ [] else if kind == 2 then 100 ∷ [] else if kind == 5 then 108 ∷ [] else unknown
kind_text None = unknown

abbrev pub mode_column : Option ℕ → List ℕ
mode_column (Some mode) = mode_digits mode
mode_column None = unknown

abbrev pub text_column : Option (List ℕ) → List ℕ
text_column (Some text) = text
text_column None = unknown

abbrev pub size_column : Option ℕ → List ℕ
size_column (Some size) = decimal size
size_column None = unknown

-- the columns, with this byte between two
abbrev pub columns : ℕ → Listed → List ℕ
columns end l =
    kind_text l.kind ++ end ∷ mode_column l.mode ++ end ∷ text_column l.owner ++ end ∷ text_column l.group ++ end
    ∷ size_column l.size ++ end ∷ l.name

-- the columns, with a space between two
abbrev pub line : Listed → List ℕ
line l = columns 32 l

-- ---- the ends of columns and lines

-- the byte between two columns: a space, or a zero byte
abbrev pub column_end : Ends → ℕ
column_end Blanks = 32
column_end Zeros = 0

-- the byte after a line: a newline, or a zero byte
abbrev pub line_end : Ends → ℕ
line_end Blanks = 10
line_end Zeros = 0

abbrev pub has_zero : List ℕ → Bool
has_zero bytes = list_any (λ byte. byte == 0) bytes

-- Whether a column has a zero byte, if zero bytes end the columns. If spaces do, no column is torn, though a name or
-- an owner may have a space.
abbrev pub is_torn : Ends → Listed → Bool
is_torn Blanks l = false
is_torn Zeros l = has_zero (text_column l.owner) || has_zero (text_column l.group) || has_zero l.name

-- an entry's columns, if they aren't torn
abbrev pub line_with : Ends → Listed → Option (List ℕ)
line_with ends l = if is_torn ends l then None else Some (columns (column_end ends) l)

-- items as lines, each with this byte after it, if each item has a line
abbrev pub lines_of : {X : Type 0} → ℕ → (X → Option (List ℕ)) → List X → Option (List ℕ)
lines_of end text [] = Some []
lines_of end text (x ∷ xs) = option_and_then (λ t. option_map (λ rest. t ++ end ∷ rest) (lines_of end text xs)) (text x)

-- ---- columns with a zero byte after each

-- an entry's columns
abbrev pub columns_of : Listed → List (List ℕ)
columns_of l =
    kind_text l.kind ∷ mode_column l.mode ∷ text_column l.owner ∷ text_column l.group ∷ size_column l.size ∷ l.name
    ∷ []

-- a text's parts, each with a zero byte after it; the first part begins with the bytes `part`, which precede the text
abbrev pub parts_from : List ℕ → List ℕ → List (List ℕ)
parts_from part [] = []
parts_from part (byte ∷ text) = if byte == 0 then part ∷ parts_from [] text else parts_from (part ++ byte ∷ []) text

abbrev pub parts : List ℕ → List (List ℕ)
parts text = parts_from [] text

-- a size of 64 bits, if any
abbrev pub IsSize : Option ℕ → Type 0
IsSize (Some size) = size < 2 ^ 64
IsSize None = Unit {0}
