-- A world whose parts are taken again.
use Rattle.std.specs.Prelude.{◌≡◌, true, Some, None}
use Rattle.node_tree.specs.World.{World}
use Rattle.node_tree.specs.Restored.{Begun, is_whole}
use Rattle.tree_parts.specs.Parts.{parts}
use Rattle.tree_parts.specs.Taken.{TakesAll}

-- all parts of the world are taken, and the result is the complete world
pub record IsTakenAgain (w : World) : Type 0 where
  pub begun : Begun
  pub taken : TakesAll w.limits None (parts w) (Some begun)
  pub same : begun.world ≡ w
  pub whole : is_whole begun.world ≡ true
