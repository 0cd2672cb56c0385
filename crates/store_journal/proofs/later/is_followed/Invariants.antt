use Rattle.std.proofs.Common.{◌<◌, ◌*◌, ℕ, drop}
use Rattle.store_journal.specs.Files.{LaterAt}
use Rattle.store_journal.proofs.later.is_followed.Given as goal

abbrev pub invariant-loop-k : goal.invariant-loop-k
invariant-loop-k l = (n : ℕ) → n < l.k → LaterAt l.fn.identity l.fn.place (drop (4 * n) l.fn.rest) → ⊥
