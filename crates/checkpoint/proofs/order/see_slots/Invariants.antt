use Rattle.std.proofs.Common.{ℕ, ◌<◌, ◌^◌}
use Rattle.session_slots.specs.Counting.{last_number}
use Rattle.session_slots.specs.Restoring.{kept_at}
use Rattle.session_slots.specs.Slots.{number_of}
use Rattle.checkpoint.proofs.order.see_slots.Given as goal

abbrev pub invariant-loop-slot : goal.invariant-loop-slot
invariant-loop-slot g l = (s : ℕ) → s < l.slot → last_number number_of (kept_at l.clients l.session s) < 2 ^ 32
