use Rattle.nfs_streams.proofs.Hubs.{lent}
use Rattle.nfs_streams.proofs.peer.waiting.Goals as goal

pub returns : goal.returns
returns g c = rw c.unwrap_or.ensures (lent c.args.hub.now c.args.conn c.pending.result _ c.pending.ensures)
