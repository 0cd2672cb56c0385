-- A sound world is one tree of directories, within the limits.
use Rattle.std.specs.Prelude.{ℕ, zero, suc, ◌+◌, ◌^◌, ◌<◌, ◌≤◌, ◌≡◌, ◌≢◌, ◌⊎◌, List, [], ◌∷◌, length, Option, Some}
use Rattle.std.specs.Prelude.{IsSome}
use Rattle.std.specs.Option.{option_map}
use Rattle.acl_list.specs.declared.entry.Kind.{Kind}
use Rattle.acl_list.specs.declared.entry.Kind.TheVariants.{File, Directory, Link}
use Rattle.acl_shape.specs.Bounds.{IsBounded}
use Rattle.nfs_types.specs.Limits.{Limits, IsAllowed}
use Rattle.node_tree.specs.Limits.{ROOT, MAX_TEXT, MAX_NAME}
use Rattle.node_tree.specs.World.{World, Object, Name, object, kind_of, name_count, link_count}

-- the name is one of these
abbrev pub IsIn : Name → List Name → Type 0
IsIn n [] = ⊥
IsIn n (m ∷ names) = (n ≡ m) ⊎ IsIn n names

-- a chain of names of this length goes up from the object to the root
abbrev pub Climbs : List Name → ℕ → ℕ → Type 0
Climbs names zero number = number ≡ ROOT
Climbs names (suc steps) number = (n : Name) × IsIn n names × (n.child ≡ number) × Climbs names steps n.directory

-- names make one tree of directories, in which each object has a place
pub record IsRooted (kinds : ℕ → Option Kind) (names : List Name) : Type 0 where
  pub root : kinds ROOT ≡ Some Directory
  pub root_has_no_name : (n : Name) → IsIn n names → n.child ≢ ROOT
  pub ends : (n : Name) → IsIn n names → (kinds n.directory ≡ Some Directory) × IsSome (kinds n.child)
  pub one_child : (m n : Name) → IsIn m names → IsIn n names → m.directory ≡ n.directory → m.name ≡ n.name → m ≡ n
  pub one_parent : (m n : Name) → IsIn m names → IsIn n names → m.child ≡ n.child → kinds n.child ≡ Some Directory
      → m ≡ n
  pub held : (number : ℕ) → IsSome (kinds number) → number ≢ ROOT → (n : Name) × IsIn n names × (n.child ≡ number)
  pub reaches_root : (number : ℕ) → kinds number ≡ Some Directory → (steps : ℕ) × Climbs names steps number

-- the stamp of an object
abbrev pub stamp_of : World → ℕ → Option ℕ
stamp_of w number = option_map (λ o. o.stamp) (object w number)

-- no two objects have the same stamp, and each stamp is below the next
pub record IsStamped (stamps : ℕ → Option ℕ) (next : ℕ) : Type 0 where
  pub apart : (j k s : ℕ) → stamps j ≡ Some s → stamps k ≡ Some s → j ≡ k
  pub below : (k s : ℕ) → stamps k ≡ Some s → s < next

-- the keys rise from the low one on, and stay below the high one
abbrev pub Rises : {X : Type 0} → (X → ℕ) → ℕ → List X → ℕ → Type 0
Rises key low [] high = low ≤ high
Rises key low (x ∷ xs) high = (low ≤ key x) × Rises key (key x + 1) xs high

-- the most bytes of an object
abbrev pub most_bytes : Limits → Kind → ℕ
most_bytes l File = l.bytes
most_bytes l Directory = 0
most_bytes l Link = MAX_TEXT

-- the object is within the limits, and was changed before the next tick
pub record IsFit (l : Limits) (next_tick : ℕ) (o : Object) : Type 0 where
  pub list : IsBounded o.list
  pub bytes : length o.bytes ≤ most_bytes l o.kind
  pub change : o.change < next_tick

-- no directory has too many names, no object has too many, and no name is too long
pub record IsLimited (l : Limits) (names : List Name) : Type 0 where
  pub directories : (number : ℕ) → name_count names number ≤ l.names
  pub links : (number : ℕ) → link_count names number ≤ l.links
  pub short : (n : Name) → IsIn n names → length n.name ≤ MAX_NAME

-- no counter is above 2 ^ 63
pub record IsCounted (w : World) : Type 0 where
  pub numbers : w.next_number ≤ 2 ^ 63
  pub ticks : w.next_tick ≤ 2 ^ 63
  pub stamps : w.next_stamp ≤ 2 ^ 63
  pub cookies : w.next_cookie ≤ 2 ^ 63

pub record IsSound (w : World) : Type 0 where
  pub rooted : IsRooted (kind_of w) w.names
  pub stamped : IsStamped (stamp_of w) w.next_stamp
  pub numbered : Rises (λ e. e.0) ROOT w.objects w.next_number
  pub listed : Rises (λ n. n.cookie) 3 w.names w.next_cookie
  pub few : length w.objects ≤ w.limits.objects
  pub fit : (number : ℕ) (o : Object) → object w number ≡ Some o → IsFit w.limits w.next_tick o
  pub limited : IsLimited w.limits w.names
  pub counted : IsCounted w
  pub allowed : IsAllowed w.limits

-- The tick of an operation: the next one before its first change, and the last one taken in each further change.
pub record IsTick (w : World) (tick : ℕ) : Type 0 where
  pub due : tick ≤ w.next_tick
  pub fresh : w.next_tick ≤ tick + 1
  pub left : tick < 2 ^ 63

-- the name in a directory that has the least cookie above a given one
pub record IsNextName (w : World) (directory cookie : ℕ) (n : Name) : Type 0 where
  pub here : n.directory ≡ directory
  pub above : cookie < n.cookie
  pub least : (m : Name) → IsIn m w.names → m.directory ≡ directory → cookie < m.cookie → n.cookie ≤ m.cookie
  pub child : IsSome (kind_of w n.child)
