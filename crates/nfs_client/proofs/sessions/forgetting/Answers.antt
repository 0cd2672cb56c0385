use Rattle.std.proofs.Common.{[]}
use Rattle.nfs_client.proofs.sessions.forgetting.Goals as goal

pub returns-clause-asks : goal.returns-clause-asks
returns-clause-asks g c = c.in_ok-put.ensures.asks [] c.in_ok-request.ensures.asks
