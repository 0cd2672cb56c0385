use Rattle.nfs_types.proofs.Within.{StayBelow}
use Rattle.nfs_types.proofs.bitmap.Bitmap.is_within.Given as goal

abbrev pub invariant-loop-index : goal.invariant-loop-index
invariant-loop-index l = StayBelow l.fn.self.words l.fn.other.words l.index
