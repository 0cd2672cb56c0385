-- Calls on one slot and of one client's record, in any world: the law on retries with definitions of its own.
use Rattle.std.specs.Prelude.{ℕ}
use Rattle.session_slots.specs.Calls.{Creation}

abbrev pub number_of : Creation → ℕ
number_of c = c.number
