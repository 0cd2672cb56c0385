use Rattle.std.proofs.Common.{sym, arith}
use Rattle.std.proofs.lemmas.List.{take_all, length-take-le}
use Rattle.nfs_client.proofs.put.piece.Goals as goal

pub slice_bounds-result-end : goal.slice_bounds-result-end
slice_bounds-result-end c = sym (length-take-le 32768 c.args.left.now (omega arith))

pub returns-else-left-gt-MOST_WRITTEN : goal.returns-else-left-gt-MOST_WRITTEN
returns-else-left-gt-MOST_WRITTEN c = sym (take_all 32768 c.args.left.now (omega arith))
