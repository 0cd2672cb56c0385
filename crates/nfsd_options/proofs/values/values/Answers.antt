use Rattle.std.proofs.Common.{Ok}
use Rattle.nfsd_options.proofs.Lists.{more}
use Rattle.nfsd_options.proofs.values.values.Goals as goal

pub loop-text-preserved : goal.loop-text-preserved
loop-text-preserved g c =
    more (λ t x. g.T.FromStr.from_str_gives t (Ok x)) c.in-Some.texts.now c.loop-text.text-index _ c.loop-text.values.items
    c.push.new.self.items c.in-Ok.value c.loop-text-test.true c.in_ok-push-in-Ok.ensures.items c.in-Ok.ensures.value
    c.loop-text.invariant
