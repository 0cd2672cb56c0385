use Rattle.nfs_types.proofs.Shared.{Sharing}
use Rattle.nfs_types.proofs.bitmap.Bitmap.common.Given as goal

abbrev pub invariant-loop-index : goal.invariant-loop-index
invariant-loop-index l = Sharing l.fn.self.words l.fn.other.words l.index l.words
