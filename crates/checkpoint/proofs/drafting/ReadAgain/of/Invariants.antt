use Rattle.std.proofs.Common.{◌≡◌, length, map}
use Rattle.compound_run.specs.ClientState.{unknown}
use Rattle.checkpoint.specs.Holds.{AppliesParts}
use Rattle.checkpoint.proofs.drafting.ReadAgain.of.Given as goal

abbrev pub invariant-loop-place : goal.invariant-loop-place
invariant-loop-place g l = record {
  count : length l.parts.items ≡ l.place;
  applies : AppliesParts (unknown l.fn.limits) (map (λ bytes. bytes.items) l.parts.items) l.clients;
}
