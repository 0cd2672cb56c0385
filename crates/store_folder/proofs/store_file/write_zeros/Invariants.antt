use Rattle.std.proofs.Common.{◌-◌, ◌≤◌}
use Rattle.store_folder.proofs.store_file.write_zeros.Given as goal

abbrev pub invariant-loop-at : goal.invariant-loop-at
invariant-loop-at l = (l.fn.place ≤ l.at) × (l.at ≤ l.to)

abbrev pub decreases-loop-at : goal.decreases-loop-at
decreases-loop-at l = l.to - l.at
