-- The lines that are appended, of all that were ever put into a trail.
use Rattle.std.specs.Prelude.{◌≡◌, ◌<◌, ◌+◌, ℕ, ◌-◌, ◌^◌, true, List, ◌++◌, length, drop}
use Rattle.circular_buffer.specs.Buffer.{keep_last}
use Rattle.access_guard.specs.Log.{Log, settled}
use Rattle.access_guard.specs.declared.line.Line.{Line}
use Rattle.trail_keeper.specs.Appended.{lost_text, new_text, text_of}

-- the log of these lines: the last 4,096 of them, and their number
pub record IsLogOf (lines : List Line) (log : Log) : Type 0 where
  pub kept : log.trail ≡ keep_last 4096 lines
  pub counted : log.total ≡ length lines

-- Each line after the earlier ones is appended by its text, in order, or is missing. The missing lines are all but the
-- last 4,096, and their number comes first.
abbrev pub AppendsEach : Type 0
AppendsEach =
    (prefix : List ℕ) (earlier later : List Line) (log : Log) → IsLogOf (earlier ++ later) log
    → let missing = length later - 4096 in
    new_text prefix (length earlier) log ≡ lost_text prefix missing ++ text_of prefix (drop missing later)

-- an operation that ends appends its lines to the others, as long as 64 bits count them
abbrev pub SettlingAdds : Type 0
SettlingAdds =
    (lines : List Line) (log : Log) → IsLogOf lines log → length lines + length log.held < 2 ^ 64
    → IsLogOf (lines ++ log.held) (settled true log)
