-- The parts of a world in order. Each is found from the one before it.
use Rattle.std.specs.Prelude.{ℕ, ◌≡◌, nat_lt, List, ◌∷◌, ◌++◌, find, slice_get, Option}
use Rattle.std.specs.Option.{option_map}
use Rattle.node_tree.specs.World.{World, Object, Name}

-- the least number above another one that has an object
abbrev pub number_after : World → ℕ → Option ℕ
number_after w number = option_map (λ e. e.0) (find (λ e. nat_lt number e.0) w.objects)

-- the name with the least cookie above another one, in any directory
abbrev pub any_after : World → ℕ → Option Name
any_after w cookie = find (λ n. nat_lt cookie n.cookie) w.names

-- Asking for the part after 0, and then for the part after each part that was found, returns all parts in order.
pub record IsReadInOrder (w : World) : Type 0 where
  pub first_object : number_after w 0 ≡ option_map (λ e. e.0) (slice_get w.objects 0)
  pub next_object : (before after : List (ℕ × Object)) (number : ℕ) (o : Object)
      → w.objects ≡ before ++ (number, o) ∷ after → number_after w number ≡ option_map (λ e. e.0) (slice_get after 0)
  pub first_name : any_after w 0 ≡ slice_get w.names 0
  pub next_name : (before after : List Name) (n : Name) → w.names ≡ before ++ n ∷ after
      → any_after w n.cookie ≡ slice_get after 0
