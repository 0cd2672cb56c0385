use Rattle.std.specs.Int.{w64}
use Rattle.std.proofs.Common.{rules}
use Rattle.std.proofs.lemmas.Int.{to_z-of_z}
use Rattle.nfs_types.proofs.Moments.{moment_made}
use Rattle.nfs_types.proofs.moment.Moment.of.Goals as goal

pub returns : goal.returns
returns c = moment_made _ _ _ _ (to_z-of_z w64 c.args.seconds (search rules))
