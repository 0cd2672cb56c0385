-- The objects after a borrow, if a reference to one of them is lent.
use Rattle.std.specs.Prelude.{ℕ, List, Option}
use Rattle.std.specs.Borrow.{LendsIf, Fml, RattleType, MutBor}
use Rattle.std.specs.declared.alloc.Allocator.{Ghosts}
use Rattle.std.specs.Map.{set_value}
use Rattle.std.specs.BTreeMap.{is_at}
use Rattle.std.specs.Ordering.{nat_cmp}
use Rattle.node_tree.specs.World.{Object}
use Rattle.node_tree.specs.contracts.node.Node as node
use Rattle.node_tree.specs.contracts.node_table.NodeTable.{the_row}

-- When the borrow ends, the number has the last object that was written through the reference. If none was lent,
-- nothing has changed.
abbrev pub lends_object : (A : RattleType) → Ghosts A.Denot → MutBor (List (ℕ × Object)) → ℕ → Option (MutBor Object)
    → Fml
lends_object A alloc t number r =
    LendsIf (the_row A alloc) (node.the_row A alloc) t r (λ o. set_value (is_at (nat_cmp number)) t.now o) t.now
