-- Paths: `/`, or names each with `/` before it.
use Rattle.std.specs.Prelude.{ℕ, Bool, ◌==◌, not, if◌then◌else◌, List, [], ◌∷◌, length, Option, Some, None}
use Rattle.std.specs.Prelude.{option_and_then}
use Rattle.std.specs.List.{slice_split, list_all, flat_map}

abbrev pub is_slash : ℕ → Bool
is_slash b = b == 47

abbrev pub is_name : List ℕ → Bool
is_name name = not (length name == 0)

-- the parts between the slashes: each is a name, a part that isn't empty
abbrev pub parts_of : List ℕ → Option (List (List ℕ))
parts_of text = if list_all is_name (slice_split is_slash text) then Some (slice_split is_slash text) else None

-- the rest after a slash at the start
abbrev pub after_slash : List ℕ → Option (List ℕ)
after_slash [] = None
after_slash (b ∷ rest) = if is_slash b then Some rest else None

-- the names of a path, from the root on: none for `/`, else those after the first slash
abbrev pub names_in : List ℕ → Option (List (List ℕ))
names_in text = option_and_then (λ rest. if length rest == 0 then Some [] else parts_of rest) (after_slash text)

-- the path of names
abbrev pub path_text : List (List ℕ) → List ℕ
path_text [] = 47 ∷ []
path_text (name ∷ names) = flat_map (λ n. 47 ∷ n) (name ∷ names)
