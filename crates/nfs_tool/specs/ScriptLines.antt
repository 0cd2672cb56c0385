-- The lines of a script, and the request of each: a command, or another book.
use Rattle.std.specs.Prelude.{ℕ, ◌==◌, ◌&&◌, ◌||◌, nat_lt, not, Bool, false, length, if◌then◌else◌, List, [], ◌∷◌}
use Rattle.std.specs.Prelude.{codes, filter, Option, Some, None, option_and_then, option_map}
use Rattle.std.specs.List.{list_all, slice_split}
use Rattle.std.specs.Str.{bytes_eq, all_ascii_digits, is_utf8}
use Rattle.who_book.specs.Spelling.{value_after}
use Rattle.nfs_client.specs.Words.{CommandLine, command_in}

-- the number of 32 bits of decimal digits; leading zeros are allowed
abbrev pub number_in : List ℕ → Option ℕ
number_in word =
    if all_ascii_digits word && nat_lt (value_after 0 word) 4294967296 then Some (value_after 0 word) else None

abbrev pub is_space : ℕ → Bool
is_space b = b == 32

-- a line that begins with `#`
abbrev pub is_comment : List ℕ → Bool
is_comment [] = false
is_comment (b ∷ bs) = b == 35

-- a comment, or nothing but spaces
abbrev pub is_skipped : List ℕ → Bool
is_skipped line = is_comment line || list_all is_space line

-- the parts between spaces, without empty parts
abbrev pub words_in : List ℕ → List (List ℕ)
words_in line = filter (λ w. not (length w == 0)) (slice_split is_space line)

-- a command and its caller
pub record Order : Type 0 where
  pub uid : ℕ
  pub gid : ℕ
  pub command : CommandLine

abbrev pub order_by : ℕ → ℕ → CommandLine → Order
order_by uid gid command = record { uid = uid; gid = gid; command = command }

abbrev pub order_as : List ℕ → List ℕ → List (List ℕ) → Option Order
order_as uid gid rest =
    option_and_then (λ u. option_and_then (λ g. option_map (order_by u g) (command_in rest)) (number_in gid))
    (number_in uid)

-- the command of words: `as`, a uid, a gid and a command
abbrev pub order_in : List (List ℕ) → Option Order
order_in (word ∷ uid ∷ gid ∷ rest) = if bytes_eq word (codes "as") then order_as uid gid rest else None
order_in _ = None

-- bytes as a text, if they are UTF-8
abbrev pub text_in : List ℕ → Option (List ℕ)
text_in bytes = if is_utf8 bytes then Some bytes else None

-- the name after `reload`
abbrev pub reload_in : List (List ℕ) → Option (List ℕ)
reload_in (word ∷ name ∷ []) = if bytes_eq word (codes "reload") then text_in name else None
reload_in _ = None

pub data Wish : Type 0 where
  -- a command is run
  Run : Order → Wish
  -- the text of this name becomes the book
  Reload : List ℕ → Wish

abbrev pub run_or_reload : Option Order → Option (List ℕ) → Option Wish
run_or_reload (Some order) name = Some (Run order)
run_or_reload None name = option_map Reload name

-- the request of words
abbrev pub wish_in : List (List ℕ) → Option Wish
wish_in words = run_or_reload (order_in words) (reload_in words)

-- the request of a line, which has to be UTF-8
abbrev pub line_in : List ℕ → Option Wish
line_in line = if is_utf8 line then wish_in (words_in line) else None
