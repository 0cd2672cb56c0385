use Rattle.std.proofs.Common.{arith}
use Rattle.nfs_ops.proofs.Sizes.{written_within}
use Rattle.nfs_ops.proofs.results.put.Goals as goal

pub returns : goal.returns
returns g c =
    let w = c.write.ensures in
    written_within _ _ _ _ c.write.result w.has_spelling w.in_normal_form w.puts (omega arith)
