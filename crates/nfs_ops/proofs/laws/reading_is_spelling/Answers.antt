use Rattle.nfs_ops.proofs.Founds.{found_at_start}
use Rattle.nfs_ops.proofs.Nexts.{next_is}
use Rattle.nfs_ops.proofs.laws.reading_is_spelling.Goals as goal

pub returns : goal.returns
returns c = λ o bytes rest built. (found_at_start o bytes rest built, next_is o bytes rest built)
