use Rattle.nfs_ops.proofs.Listings.{listing_is}
use Rattle.nfs_ops.proofs.laws.a_listing_is_the_longest.Goals as goal

pub returns : goal.returns
returns g c = listing_is
