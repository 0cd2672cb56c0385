use Rattle.std.proofs.Common.{◌≡◌, ◌++◌, take}
use Rattle.std.specs.List.{flat_map}
use Rattle.server_metrics.specs.Text.{call_line}
use Rattle.server_metrics.proofs.text.push_calls.Given as goal

abbrev pub invariant-loop-call : goal.invariant-loop-call
invariant-loop-call g l = l.out.items ≡ l.initial.out.items ++ flat_map call_line (take l.call-index l.calls)
