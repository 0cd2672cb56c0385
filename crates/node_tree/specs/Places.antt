-- Objects in places, and the place of each number.
use Rattle.std.specs.Prelude.{ℕ, ◌≡◌, List, [], length, map, IsSome, Some, None}
use Rattle.std.specs.List.Sorted.{IsStrictlySortedBy}
use Rattle.std.specs.Option.{option_map_or}
use Rattle.std.specs.Map.{lookup, keys_of}
use Rattle.std.specs.BTreeMap.{is_at}
use Rattle.std.specs.Ordering.{nat_cmp}
use Rattle.acl_list.specs.declared.entry.Kind.TheVariants.{Directory}
use Rattle.slab.specs.Slab.{Slab, get, slab_len}
use Rattle.node_tree.specs.World.{Object}
use Rattle.node_tree.specs.Changes.{new_object, from_start, epoch}

-- the object of an empty place, which no number has
abbrev pub unseen : Object
unseen =
    new_object Directory [] 0 0 [] 0 (record { stamp = 0; at = from_start 0; access = None; modify = epoch })

-- the object in a place
abbrev pub in_place : Slab Object → ℕ → Object
in_place nodes place = option_map_or (λ o. o) (get nodes place) unseen

-- each number with the object in its place
abbrev pub placed : Slab Object → List (ℕ × ℕ) → List (ℕ × Object)
placed nodes places = map (λ e. (e.0, in_place nodes e.1)) places

-- Each number has the place of an object, no two have the same place, and no other objects exist.
pub record IsPlaced (nodes : Slab Object) (places : List (ℕ × ℕ)) : Type 0 where
  pub ordered : IsStrictlySortedBy nat_cmp (keys_of places)
  pub held : (number place : ℕ) → lookup (is_at (nat_cmp number)) places ≡ Some place → IsSome (get nodes place)
  pub apart : (j k place : ℕ) → lookup (is_at (nat_cmp j)) places ≡ Some place
      → lookup (is_at (nat_cmp k)) places ≡ Some place → j ≡ k
  pub counted : slab_len nodes ≡ length places
