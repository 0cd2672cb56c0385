use Rattle.std.proofs.Common.{◌≡◌, ◌≤◌, ◌+◌, ◌-◌}
use Rattle.trail_keeper.specs.Dates.{is_leap, months_length}
use Rattle.trail_keeper.proofs.date.day_of_year.Given as goal

abbrev pub invariant-loop-month : goal.invariant-loop-month
invariant-loop-month l = record {
  first : 1 ≤ l.month;
  last : l.month ≤ 12;
  counted : months_length (is_leap l.fn.year) (l.month - 1) + l.left ≡ l.fn.day;
}

abbrev pub decreases-loop-month : goal.decreases-loop-month
decreases-loop-month l = 12 - l.month
