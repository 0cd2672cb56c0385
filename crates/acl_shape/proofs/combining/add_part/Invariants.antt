use Rattle.std.proofs.Common.{◌≡◌, take, ◌++◌}
use Rattle.acl_shape.specs.Parts.{part_of}
use Rattle.acl_shape.proofs.combining.add_part.Given as goal

abbrev pub invariant-loop-entry : goal.invariant-loop-entry
invariant-loop-entry g l = l.list ≡ l.initial.list ++ part_of l.part (take l.entry-index l.entries)
