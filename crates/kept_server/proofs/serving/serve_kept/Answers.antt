use Rattle.std.proofs.Common.{Ok, Err}
use Rattle.kept_server.specs.declared.opening.Kept.{Kept}
use Rattle.kept_server.proofs.Whole.{opened, refused, served, unready}
use Rattle.kept_server.proofs.serving.serve_kept.Goals as goal

pub returns-in-Err : goal.returns-in-Err
returns-in-Err g c = λ b.
    refused g.row.A.Denot g.S.Streams.acts g.S.Disk.adds g.met.S.Streams.disk_acts c.args.site.now c.open_kept.new.disk b c.args.start.limits c.args.start.book c.args.limits c.in-Err.end
    (opened g.S.Disk.adds c.args.site.now c.open_kept.new.disk b c.args.start.limits c.args.start.book (Err c.in-Err.end) c.in-Err.ensures)

pub returns-then-not-begin : goal.returns-then-not-begin
returns-then-not-begin g c = λ b.
    unready g.row.A.Denot g.S.Streams.acts g.S.Disk.adds g.met.S.Streams.disk_acts c.args.site.now c.open_kept.new.disk c.begin.new.self b c.args.start.limits c.args.start.book c.args.limits c.in-Ok.kept
    (opened g.S.Disk.adds c.args.site.now c.open_kept.new.disk b c.args.start.limits c.args.start.book (Ok c.in-Ok.kept) c.in-Ok.ensures) c.begin.ensures

pub returns : goal.returns
returns g c = λ b.
    served g.row.A.Denot g.S.Streams.acts g.S.Disk.adds g.met.S.Streams.disk_acts c.args.site.now c.open_kept.new.disk c.begin.new.self c.serve_all-end.new.streams b c.args.start.limits c.args.start.book c.args.limits c.serve_all-end.result c.in-Ok.kept c.serve_all-end.new.hub
    (opened g.S.Disk.adds c.args.site.now c.open_kept.new.disk b c.args.start.limits c.args.start.book (Ok c.in-Ok.kept) c.in-Ok.ensures) c.begin.ensures c.serve_all-end.ensures
