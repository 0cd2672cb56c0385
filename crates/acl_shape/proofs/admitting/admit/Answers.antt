use Rattle.std.proofs.Common.{◌∙◌, sym}
use Rattle.acl_shape.proofs.Faults.{faultless_is_short}
use Rattle.acl_shape.proofs.admitting.admit.Goals as goal

pub faultless-requires : goal.faultless-requires
faultless-requires g c = faultless_is_short c.args.raws.now (sym c.refusal.ensures ∙ c.in_default.is)
