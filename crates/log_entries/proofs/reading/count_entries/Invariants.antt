use Rattle.std.proofs.Common.{length}
use Rattle.log_entries.proofs.Counting.{IsCounting}
use Rattle.log_entries.proofs.reading.count_entries.Given as goal

abbrev pub invariant-loop-entries : goal.invariant-loop-entries
invariant-loop-entries l = IsCounting l.fn.bytes l.entries l.count

abbrev pub decreases-loop-entries : goal.decreases-loop-entries
decreases-loop-entries l = length l.entries
