use Rattle.std.proofs.Common.{◌≡◌, ℕ, ◌<◌, ◌≤◌, ◌-◌}
use Rattle.session_slots.specs.Limits.{END}
use Rattle.session_slots.specs.Registry.{client_at}
use Rattle.client_parts.proofs.comparing.are_records_same.Given as goal

abbrev pub invariant-loop-number : goal.invariant-loop-number
invariant-loop-number g l = (l.at ≤ END) × ((n : ℕ) → n < l.at → client_at l.a n ≡ client_at l.b n)

abbrev pub decreases-loop-number : goal.decreases-loop-number
decreases-loop-number g l = END - l.at
