use Rattle.std.proofs.Common.{◌≡◌, take}
use Rattle.std.specs.List.{filter_map}
use Rattle.acl_shape.specs.Inherited.{child}
use Rattle.acl_shape.proofs.inheriting.inherited_of.Given as goal

abbrev pub invariant-loop-entry : goal.invariant-loop-entry
invariant-loop-entry g l = l.new ≡ filter_map (child l.kind) (take l.entry-index l.entries)
