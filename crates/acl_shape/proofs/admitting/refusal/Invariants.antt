use Rattle.std.proofs.Common.{◌≡◌, [], take}
use Rattle.std.specs.List.{filter_map}
use Rattle.acl_shape.specs.Admitted.{fault_of}
use Rattle.acl_shape.proofs.admitting.refusal.Given as goal

abbrev pub invariant-loop-raw : goal.invariant-loop-raw
invariant-loop-raw l = filter_map fault_of (take l.raw-index l.raws) ≡ []
