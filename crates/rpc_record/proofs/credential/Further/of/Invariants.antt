use Rattle.std.proofs.Common.{◌≡◌, take}
use Rattle.std.specs.Prelude.{filter, not, ◌==◌}
use Rattle.rpc_record.proofs.credential.Further.of.Given as goal

-- the groups that were passed, without the gid
abbrev pub invariant-loop-group : goal.invariant-loop-group
invariant-loop-group l = l.further ≡ filter (λ g. not (g == l.caller.gid)) (take l.group-index l.caller.groups)
