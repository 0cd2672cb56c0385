use Rattle.std.proofs.Common.{ap, ◌∙◌}
use Rattle.node_tree.specs.Judged.{judged_of}
use Rattle.access_rows.specs.declared.demand.Demand.TheVariants.{ServerTime}
use Rattle.access_guard.specs.Lines.{lines}
use Rattle.access_guard.specs.Log.{held}
use Rattle.access_guard.specs.State.{State}
use Rattle.access_guard.proofs.Lines.{time_lines}
use Rattle.access_guard.proofs.guard.Guard.decide_server_time.Goals as goal

pub returns-clause-lines : goal.returns-clause-lines
returns-clause-lines g c =
    let lists = judged_of c.args.tree.now in
    let caller = c.args.caller.now in
    time_lines lists caller c.args.op c.args.object c.open-opened.result c.time_mask-mask.result c.decide_opened.result c.self.inside.trail c.decide_opened.new.self.log
    c.open-opened.ensures.list c.time_mask-mask.ensures c.decide_opened.ensures.decision c.decide_opened.ensures.lines
    ∙ ap (λ (s : State). held (lines lists caller c.args.op (ServerTime c.args.object)) s.log) c.self.view_is
