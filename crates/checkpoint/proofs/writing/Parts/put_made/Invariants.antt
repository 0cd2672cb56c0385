use Rattle.std.proofs.Common.{◌≡◌, map, take}
use Rattle.store_journal.specs.Passage.{passage}
use Rattle.checkpoint.specs.Writing.{PartsGiven}
use Rattle.checkpoint.specs.internal.Writing.{counted}
use Rattle.checkpoint.proofs.writing.Parts.put_made.Given as goal

abbrev pub invariant-loop-bytes : goal.invariant-loop-bytes
invariant-loop-bytes g l = record {
  given : PartsGiven (passage g.D.Disk.adds l.fn.disk l.disk) l.fn.journal (map (λ b. b.items) (take l.bytes-index l.fn.parts)) l.journal;
  size : l.self.size ≡ counted l.fn.self.size (map (λ b. b.items) (take l.bytes-index l.fn.parts));
  stays : l.self.writer ≡ l.fn.self.writer;
}
