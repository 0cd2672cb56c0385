use Rattle.std.proofs.Common.{◌≡◌, ◌-◌, []}
use Rattle.checkpoint.proofs.Putting.{NamesPut}
use Rattle.checkpoint.proofs.writing.Parts.put_names.Given as goal

abbrev pub invariant-loop-name : goal.invariant-loop-name
invariant-loop-name g l = record {
  empty : l.self.writer.bytes ≡ [];
  put : NamesPut g.D.Disk.adds l.fn.tree l.at l.fn.journal l.journal l.fn.self.size l.self.size l.fn.disk l.disk;
}

abbrev pub decreases-loop-name : goal.decreases-loop-name
decreases-loop-name g l = 18446744073709551616 - l.at
