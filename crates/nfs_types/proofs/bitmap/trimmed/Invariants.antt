use Rattle.std.proofs.Common.{◌≡◌, ◌≤◌, take, length}
use Rattle.nfs_types.specs.Forms.{trimmed}
use Rattle.nfs_types.proofs.bitmap.trimmed.Given as goal

abbrev pub invariant-loop-len : goal.invariant-loop-len
invariant-loop-len l = record { within : l.len ≤ length l.words; same : trimmed (take l.len l.words) ≡ trimmed l.words }

abbrev pub decreases-loop-len : goal.decreases-loop-len
decreases-loop-len l = l.len
