use Rattle.std.proofs.Common.{[], Ok, Err}
use Rattle.store_journal.specs.Passage.{passage}
use Rattle.nfs_hub.specs.Answer.{with_lasting_sessions}
use Rattle.kept_server.proofs.Hubs.{begins_with}
use Rattle.kept_server.proofs.opening.begin_store.Goals as goal

pub returns-in-Ok-begin : goal.returns-in-Ok-begin
returns-in-Ok-begin g c =
    let history = c.begin_log.ensures.extends (with_lasting_sessions c.args.limits c.args.book) [] c.in-Ok.ensures.ok in
    (history, begins_with (passage g.D.Disk.adds c.args.disk.now c.begin.new.disk) c.args.current (with_lasting_sessions c.args.limits c.args.book) c.begin_log.new.self c.server.result.now (Ok c.in-Ok-begin.store) history c.server.ensures c.in-Ok-begin.ensures)

pub returns-in-Err : goal.returns-in-Err
returns-in-Err g c =
    let history = c.begin_log.ensures.extends (with_lasting_sessions c.args.limits c.args.book) [] c.in-Ok.ensures.ok in
    begins_with (passage g.D.Disk.adds c.args.disk.now c.begin.new.disk) c.args.current (with_lasting_sessions c.args.limits c.args.book) c.begin_log.new.self c.server.result.now (Err c.in-Err.fault) history c.server.ensures c.in-Err.ensures
