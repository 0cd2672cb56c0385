use Rattle.std.proofs.Common.{◌≡◌, ◌<◌, ℕ, length}
use Rattle.std.specs.Map.{lookup}
use Rattle.std.specs.BTreeMap.{is_at}
use Rattle.std.specs.Ordering.{nat_cmp}
use Rattle.node_tree.proofs.blocks.remove_from.Given as goal

abbrev pub invariant-loop : goal.invariant-loop
invariant-loop g l = (k : ℕ) → k < l.from → lookup (is_at (nat_cmp k)) l.blocks.entries ≡ lookup (is_at (nat_cmp k)) l.fn.blocks.entries

abbrev pub decreases-loop : goal.decreases-loop
decreases-loop g l = length l.blocks.entries
