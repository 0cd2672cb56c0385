use Rattle.std.proofs.Common.{◌≡◌, ◌+◌, ◌-◌, ◌/◌, ◌<◌, ◌≤◌, ℕ}
use Rattle.node_tree.specs.Blocks.{byte_at}
use Rattle.node_tree.proofs.blocks.first_data.Given as goal

abbrev pub invariant-loop-first : goal.invariant-loop-first
invariant-loop-first g l = record {
  from : l.offset / 4096 ≤ l.number;
  zeros : (i : ℕ) → l.offset ≤ i → i / 4096 < l.number → byte_at l.blocks.entries i ≡ 0;
}

abbrev pub decreases-loop-first : goal.decreases-loop-first
decreases-loop-first g l = l.size / 4096 + 1 - l.number
