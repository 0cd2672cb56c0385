use Rattle.std.proofs.Common.{◌≡◌, take, ◌++◌}
use Rattle.std.specs.List.{filter_map}
use Rattle.acl_shape.specs.Mode.{kept}
use Rattle.acl_shape.proofs.modes.acl_for_mode.Given as goal

abbrev pub invariant-loop-entry : goal.invariant-loop-entry
invariant-loop-entry g l = l.new ≡ l.initial.new ++ filter_map (kept l.lacking) (take l.entry-index l.entries)
