-- A planned RENAME: what it finds in a world before it changes it (RFC 8881, section 18.26).
use Rattle.std.specs.Prelude.{ℕ, ◌≡◌, ◌≤◌, true, false, List, length, Some}
use Rattle.acl_list.specs.declared.entry.Kind.TheVariants.{Directory}
use Rattle.node_tree.specs.declared.moved.Plan.{Plan}
use Rattle.node_tree.specs.declared.moved.Plan.TheVariants.{Same, Move}
use Rattle.node_tree.specs.Limits.{MAX_NAME}
use Rattle.node_tree.specs.World.{World, kind_of, parent_of, child_named, is_one, has_entries}
use Rattle.node_tree.specs.Refusals.{is_below, may_replace, is_same}
use Rattle.node_tree.specs.Moving.{Moving}

-- The move is valid for the world. Both names are found as it states, they belong to two objects, and the child may
-- have the new name.
pub record IsMove (w : World) (m : Moving) : Type 0 where
  pub live : kind_of w m.to ≡ Some Directory
  pub short : length m.new ≤ MAX_NAME
  pub child : child_named w m.from m.old ≡ Some m.child
  pub target : child_named w m.to m.new ≡ m.target
  pub other : is_one (Some m.child) m.target ≡ false
  pub above : is_below (kind_of w) (parent_of w) w.next_number m.child m.to ≡ false
  pub replaces : may_replace (kind_of w) (has_entries w.names) m.child m.target ≡ true

-- the move gives the child of this old name this new name
pub record IsOf (from : ℕ) (old : List ℕ) (to : ℕ) (new : List ℕ) (m : Moving) : Type 0 where
  pub from_is : m.from ≡ from
  pub old_is : m.old ≡ old
  pub to_is : m.to ≡ to
  pub new_is : m.new ≡ new

-- the plan of a RENAME that isn't refused
abbrev pub IsPlan : World → ℕ → List ℕ → ℕ → List ℕ → Plan → Type 0
IsPlan w from old to new Same = is_same w from old to new ≡ true
IsPlan w from old to new (Move m) = IsMove w m × IsOf from old to new m
