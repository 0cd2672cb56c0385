use Rattle.std.proofs.Common.{subst}
use Rattle.std.specs.Prelude.{Ok}
use Rattle.store_journal.specs.Passage.{passage}
use Rattle.call_store.specs.declared.opening.Opened.{Opened}
use Rattle.call_store.specs.Opening.{Started, OpenGives, ending_of}
use Rattle.kept_server.proofs.opening.open_kept.Goals as goal

pub returns-in-Ok-Kept : goal.returns-in-Ok-Kept
returns-in-Ok-Kept g c = record {
  mid = c.open.new.disk;
  found = Ok (Started c.in-Ok-Kept.found.store c.in-Ok-Kept.found.restart);
  opens =
      subst (λ (o : Opened g.row.A.Denot). OpenGives (passage g.D.Disk.adds c.args.disk.now c.open.new.disk) (Ok (ending_of o)))
      c.in-Ok-Kept.field-0-is c.in-Ok-Kept.ensures;
  then = c.go_on_if.ensures;
}
