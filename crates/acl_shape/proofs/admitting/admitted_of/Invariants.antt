use Rattle.std.proofs.Common.{◌≡◌, take}
use Rattle.acl_shape.specs.Admitted.{admitted}
use Rattle.acl_shape.proofs.admitting.admitted_of.Given as goal

abbrev pub invariant-loop-raw : goal.invariant-loop-raw
invariant-loop-raw g l = l.new ≡ admitted l.kind (take l.raw-index l.raws)
