use Rattle.std.proofs.Common.{◌≡◌, ℕ, ◌<◌}
use Rattle.session_slots.specs.Restoring.{kept_at}
use Rattle.client_parts.proofs.comparing.are_slots_same.Given as goal

abbrev pub invariant-loop-slot : goal.invariant-loop-slot
invariant-loop-slot g l = (s : ℕ) → s < l.slot → kept_at l.a l.session s ≡ kept_at l.b l.session s
