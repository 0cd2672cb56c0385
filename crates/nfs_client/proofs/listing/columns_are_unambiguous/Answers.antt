use Rattle.nfs_client.proofs.Columns.{columns_apart}
use Rattle.nfs_client.proofs.listing.columns_are_unambiguous.Goals as goal

pub returns : goal.returns
returns c = columns_apart
