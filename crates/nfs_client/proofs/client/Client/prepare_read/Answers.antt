use Rattle.nfs_client.proofs.client.Client.prepare_read.Goals as goal

pub returns-clause-asks : goal.returns-clause-asks
returns-clause-asks g c = rw c.anonymous-stateid.ensures at c.request_along.ensures.asks
