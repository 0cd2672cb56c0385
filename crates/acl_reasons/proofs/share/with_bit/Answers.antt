use Rattle.acl_reasons.proofs.Sharing.{with_one, without_one}
use Rattle.acl_reasons.proofs.share.with_bit.Goals as goal

pub returns-then-wanted : goal.returns-then-wanted
returns-then-wanted c bit = rw c.if-wanted.true (with_one c.args.mask c.args.place bit c.requires)
