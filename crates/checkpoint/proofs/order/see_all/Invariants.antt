use Rattle.std.proofs.Common.{ℕ, ◌<◌, ◌≤◌, ◌-◌}
use Rattle.session_slots.specs.Limits.{END}
use Rattle.checkpoint.specs.Covering.{IsSessionInOrder}
use Rattle.checkpoint.proofs.order.see_all.Given as goal

abbrev pub invariant-loop-number : goal.invariant-loop-number
invariant-loop-number g l = (l.at ≤ END) × ((n : ℕ) → n < l.at → IsSessionInOrder l.clients n)

abbrev pub decreases-loop-number : goal.decreases-loop-number
decreases-loop-number g l = END - l.at
