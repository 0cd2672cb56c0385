use Rattle.std.proofs.Common.{◌*◌, ◌<◌, ◌^◌, arith}
use Rattle.node_tree.proofs.blocks.first_data.Goals as goal

pub data_in-requires : goal.data_in-requires
data_in-requires g c =
    let few : c.in-Some.first * 4096 < c.args.size = c.requires.within.few c.in-Some.first c.in-Some.ensures.present.1 in
    let fits : c.args.size < 2 ^ 64 = c.ranges.size.fits in
    omega arith
