use Rattle.std.proofs.Common.{[]}
use Rattle.nfs_client.proofs.client.Client.request.Goals as goal

pub returns : goal.returns
returns g c = c.in_ok-put.ensures.asks [] c.in_ok-request.ensures.asks
