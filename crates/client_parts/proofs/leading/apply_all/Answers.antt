use Rattle.std.proofs.Common.{◌-◌}
use Rattle.client_parts.proofs.AppliedChanges.{applying_more, applying_not, one_fewer}
use Rattle.client_parts.proofs.leading.apply_all.Goals as goal

pub loop-left-preserved : goal.loop-left-preserved
loop-left-preserved g c =
    applying_more c.args.count c.args.clients.now c.args.reader.now c.loop-left.left (c.loop-left.left - 1) c.loop-left.clients c.apply_one.new.clients c.loop-left.reader c.apply_one.new.reader c.loop-left.invariant (one_fewer c.loop-left.left c.loop-left-test.true) c.in-Ok.ensures.ok

pub returns-in-Err-clause-unfit : goal.returns-in-Err-clause-unfit
returns-in-Err-clause-unfit g c = λ is.
    applying_not c.args.count c.args.clients.now c.args.reader.now c.loop-left.left (c.loop-left.left - 1) c.loop-left.clients c.loop-left.reader c.loop-left.invariant (one_fewer c.loop-left.left c.loop-left-test.true) (c.in-Err.ensures.unfit is)
