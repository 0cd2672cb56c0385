-- The lines that a guard has written: those of the current operation, and the trail of the operations before it.
use Rattle.std.specs.Prelude.{ℕ, ◌+◌, ◌-◌, ◌^◌, min, Bool, if◌then◌else◌, List, [], ◌++◌, length}
use Rattle.circular_buffer.specs.Buffer.{keep_last}
use Rattle.access_guard.specs.declared.line.Line.{Line}

pub record Log : Type 0 where
  -- the lines that are held until the operation ends, in order
  pub held : List Line
  -- the last lines of the operations before it, in order
  pub trail : List Line
  -- the count of all lines, up to the limit of 64 bits
  pub total : ℕ

-- the most lines that the trail keeps
abbrev pub MOST_KEPT : ℕ
MOST_KEPT = 4096

-- more lines are held
abbrev pub held : List Line → Log → Log
held lines log = record log { held = log.held ++ lines }

-- the operation ends: its lines are appended to the trail, or dropped
abbrev pub settled : Bool → Log → Log
settled keep log = record {
  held = [];
  trail = if keep then keep_last MOST_KEPT (log.trail ++ log.held) else log.trail;
  total = if keep then min (log.total + length log.held) (2 ^ 64 - 1) else log.total;
}

-- no line has been written
abbrev pub no_lines : Log
no_lines = record { held = []; trail = []; total = 0 }
