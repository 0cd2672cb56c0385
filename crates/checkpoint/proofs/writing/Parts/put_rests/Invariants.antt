use Rattle.std.proofs.Common.{◌≡◌, ◌-◌, []}
use Rattle.checkpoint.proofs.Rests.{RestsPut, end}
use Rattle.checkpoint.proofs.writing.Parts.put_rests.Given as goal

abbrev pub invariant-loop-offset : goal.invariant-loop-offset
invariant-loop-offset g l = record {
  empty : l.self.writer.bytes ≡ [];
  put : RestsPut l.fn.tree l.fn.number g.D.Disk.adds l.at l.fn.journal l.journal l.fn.self.size l.self.size l.fn.disk l.disk;
}

abbrev pub decreases-loop-offset : goal.decreases-loop-offset
decreases-loop-offset g l = end l.fn.tree l.fn.number - l.at
