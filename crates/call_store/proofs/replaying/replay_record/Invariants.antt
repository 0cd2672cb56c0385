use Rattle.std.proofs.Common.{length}
use Rattle.call_store.proofs.InTurn.{IsReplaying}
use Rattle.call_store.proofs.replaying.replay_record.Given as goal

abbrev pub invariant-loop-entries : goal.invariant-loop-entries
invariant-loop-entries g l = IsReplaying l.fn.bytes l.entries l.number l.fn.restart l.restart

abbrev pub decreases-loop-entries : goal.decreases-loop-entries
decreases-loop-entries g l = length l.entries
