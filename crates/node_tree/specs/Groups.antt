-- Names by cookie, and the cookies of the names that are in one directory or belong to one child.
use Rattle.std.specs.Prelude.{ℕ, ◌≡◌, ◌==◌, ◌<◌, Bool, List, [], length, map, filter, IsSome}
use Rattle.std.specs.Option.{option_map_or}
use Rattle.std.specs.Map.{lookup}
use Rattle.std.specs.BTreeMap.{is_at, BTreeMap}
use Rattle.std.specs.BTreeSet.{BTreeSet}
use Rattle.std.specs.Ordering.{nat_cmp}
use Rattle.node_tree.specs.World.{Name}
use Rattle.node_tree.specs.Sound.{Rises}

-- the cookies of a directory or of a child, by its number
abbrev pub cookies_at : BTreeMap ℕ (BTreeSet ℕ) → ℕ → List ℕ
cookies_at groups number = option_map_or (λ cookies. cookies.keys) (lookup (is_at (nat_cmp number)) groups.entries) []

-- a number has a set only if it has a cookie
abbrev pub AreFilled : BTreeMap ℕ (BTreeSet ℕ) → Type 0
AreFilled groups =
    (number : ℕ) → IsSome (lookup (is_at (nat_cmp number)) groups.entries) → 0 < length (cookies_at groups number)

-- the cookies of the names that pass
abbrev pub cookies_of : (Name → Bool) → List Name → List ℕ
cookies_of passes names = map (λ n. n.cookie) (filter passes names)

-- each name under its cookie
abbrev pub keyed : List Name → List (ℕ × Name)
keyed names = map (λ n. (n.cookie, n)) names

-- Names are stored by their cookies, which rise from 3 on. A directory has the cookies of the names in it, and a child
-- those of its names. No set is empty.
pub record IsListed (entries : List (ℕ × Name)) (by_directory by_child : BTreeMap ℕ (BTreeSet ℕ))
    (names : List Name) : Type 0 where
  pub next : ℕ
  pub keyed_names : entries ≡ keyed names
  pub rises : Rises (λ n. n.cookie) 3 names next
  pub directories : (number : ℕ) → cookies_at by_directory number ≡ cookies_of (λ n. n.directory == number) names
  pub children : (number : ℕ) → cookies_at by_child number ≡ cookies_of (λ n. n.child == number) names
  pub directories_filled : AreFilled by_directory
  pub children_filled : AreFilled by_child
