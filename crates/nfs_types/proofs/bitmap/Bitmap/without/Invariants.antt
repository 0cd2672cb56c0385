use Rattle.nfs_types.proofs.Cleared.{Clearing}
use Rattle.nfs_types.proofs.bitmap.Bitmap.without.Given as goal

abbrev pub invariant-loop-number : goal.invariant-loop-number
invariant-loop-number l = Clearing l.fn.self.words l.numbers l.number-index l.words
