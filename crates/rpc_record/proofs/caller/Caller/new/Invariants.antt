use Rattle.std.proofs.Common.{◌+◌, ◌≤◌, ◌∷◌, length, take}
use Rattle.rpc_record.specs.Identity.{IsSetOf}
use Rattle.rpc_record.proofs.caller.Caller.new.Given as goal

-- the groups are the set of those that were read
abbrev pub invariant-loop-group : goal.invariant-loop-group
invariant-loop-group l = record {
  few : length l.groups ≤ l.group-index + 1;
  read : IsSetOf l.groups (l.gid ∷ take l.group-index l.further);
}
