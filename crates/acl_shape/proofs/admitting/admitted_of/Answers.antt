use Rattle.std.proofs.Common.{arith}
use Rattle.std.proofs.lemmas.Grind.{common_steps}
use Rattle.std.proofs.lemmas.List.Elements.{filter_map-append}
use Rattle.acl_shape.proofs.admitting.admitted_of.Goals as goal

pub loop-raw-preserved : goal.loop-raw-preserved
loop-raw-preserved g c = grind (arith, common_steps, filter_map-append)
