-- The state of a guard.
use Rattle.std.specs.Prelude.{ℕ, []}
use Rattle.access_guard.specs.Log.{Log}
use Rattle.access_guard.specs.Memory.{Memory}

pub record State : Type 0 where
  pub memory : Memory
  pub log : Log

-- a guard that has decided nothing yet
abbrev pub fresh : ℕ → State
fresh capacity = record {
  memory = record { capacity = capacity; remembered = []; examined = 0 };
  log = record { held = []; trail = []; total = 0 };
}
