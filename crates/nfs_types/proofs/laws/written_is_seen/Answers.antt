use Rattle.nfs_types.proofs.ClientWritten.{written_seen}
use Rattle.nfs_types.proofs.laws.written_is_seen.Goals as goal

pub returns : goal.returns
returns c = written_seen
