use Rattle.std.proofs.Common.{◌≡◌, ◌-◌, []}
use Rattle.checkpoint.proofs.Putting.{ObjectsPut}
use Rattle.checkpoint.proofs.writing.Parts.put_objects.Given as goal

abbrev pub invariant-loop-number : goal.invariant-loop-number
invariant-loop-number g l = record {
  empty : l.self.writer.bytes ≡ [];
  put : ObjectsPut g.D.Disk.adds l.fn.tree l.at l.fn.journal l.journal l.fn.self.size l.self.size l.fn.disk l.disk;
}

abbrev pub decreases-loop-number : goal.decreases-loop-number
decreases-loop-number g l = 18446744073709551616 - l.at
