use Rattle.std.proofs.Common.{◌≡◌, ◌<◌, ◌≤◌, ℕ, true}
use Rattle.node_tree.specs.Blocks.{byte_at, is_held}
use Rattle.node_tree.proofs.blocks.put_all_zeros.Given as goal

abbrev pub invariant-loop-number : goal.invariant-loop-number
invariant-loop-number g l = record {
  bytes : (i : ℕ) → byte_at l.blocks.entries i ≡ byte_at l.fn.blocks.entries i;
  there : (k : ℕ) → l.from ≤ k → k < l.number → is_held l.blocks.entries k ≡ true;
  others : (k : ℕ) → l.to ≤ k → is_held l.blocks.entries k ≡ is_held l.fn.blocks.entries k;
}
