-- The names of directories, in a map for each directory.
use Rattle.std.specs.Prelude.{ℕ, ◌≡◌, ◌<◌, ◌≤◌, count_by, List, length, find, Option, None, Vec, IsSome}
use Rattle.std.specs.Option.{option_map, option_map_or}
use Rattle.std.specs.Map.{lookup}
use Rattle.std.specs.BTreeMap.{is_at}
use Rattle.std.specs.declared.collections.BTreeMap.{BTreeMap}
use Rattle.std.specs.Ordering.{nat_cmp}
use Rattle.std.specs.Cmp.Lexicographic.{slice_cmp}
use Rattle.node_tree.specs.World.{Name, is_named}
use Rattle.node_tree.specs.Sound.{Rises}

-- the cookie of a name
abbrev pub cookie_of : {A : Type 0} → BTreeMap (Vec ℕ A) ℕ A → List ℕ → Option ℕ
cookie_of names name = lookup (is_at (λ k. slice_cmp nat_cmp name k.items)) names.entries

-- the cookie of a name in a directory
abbrev pub cookie_at : {A : Type 0} → BTreeMap ℕ (BTreeMap (Vec ℕ A) ℕ A) A → ℕ → List ℕ → Option ℕ
cookie_at index directory name =
    option_map_or (λ names. cookie_of names name) (lookup (is_at (nat_cmp directory)) index.entries) None

-- each name is mapped to the cookie that it has among the names
abbrev pub IsIndexed : {A : Type 0} → BTreeMap ℕ (BTreeMap (Vec ℕ A) ℕ A) A → List Name → Type 0
IsIndexed index names =
    (directory : ℕ) (name : List ℕ)
    → cookie_at index directory name ≡ option_map (λ n. n.cookie) (find (is_named directory name) names)

-- a directory has a map only if it has a name
abbrev pub AreNamed : {A : Type 0} → BTreeMap ℕ (BTreeMap (Vec ℕ A) ℕ A) A → Type 0
AreNamed index =
    (directory : ℕ) → IsSome (lookup (is_at (nat_cmp directory)) index.entries)
    → 0 < option_map_or (λ names. length names.entries) (lookup (is_at (nat_cmp directory)) index.entries) 0

-- The names are found, their cookies rise from 3 on, no name occurs twice, and no map is empty.
pub record IsKept {A : Type 0} (index : BTreeMap ℕ (BTreeMap (Vec ℕ A) ℕ A) A) (names : List Name) : Type 0 where
  pub next : ℕ
  pub rises : Rises (λ n. n.cookie) 3 names next
  pub found : IsIndexed index names
  pub once : (directory : ℕ) (name : List ℕ) → count_by (is_named directory name) names ≤ 1
  pub named : AreNamed index
