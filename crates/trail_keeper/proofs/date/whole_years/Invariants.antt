use Rattle.std.proofs.Common.{◌≡◌, ◌≤◌, ◌+◌, ◌*◌}
use Rattle.trail_keeper.specs.Dates.{years_length}
use Rattle.trail_keeper.proofs.date.whole_years.Given as goal

abbrev pub invariant-loop-left : goal.invariant-loop-left
invariant-loop-left l = record {
  few : 365 * l.years + l.left ≤ l.fn.days;
  counted : years_length l.years + l.left ≡ l.fn.days;
}

abbrev pub decreases-loop-left : goal.decreases-loop-left
decreases-loop-left l = l.left
