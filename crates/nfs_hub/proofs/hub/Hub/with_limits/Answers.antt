use Rattle.std.proofs.Common.{[], subst}
use Rattle.nfs_hub.specs.Hub.{IsHistoryOf}
use Rattle.nfs_hub.proofs.hub.Hub.with_limits.Goals as goal

pub returns : goal.returns
returns g c = subst (λ first. IsHistoryOf first [] c.over.result) c.in_ok-with_sessions.ensures c.over.ensures
