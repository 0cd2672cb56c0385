use Rattle.std.proofs.Common.{[], subst}
use Rattle.std.specs.Prelude.{IfOk}
use Rattle.nfs_types.specs.Limits.{Limits}
use Rattle.nfs_hub.specs.Answer.{with_sessions}
use Rattle.nfs_hub.specs.Hub.{IsHistoryOf}
use Rattle.nfs_hub.proofs.hub.Hub.new.Goals as goal

pub returns : goal.returns
returns g c =
    subst (λ (l : Limits). IfOk c.with_limits.result (λ hub. IsHistoryOf (with_sessions l c.args.book) [] hub))
    c.standard.ensures c.with_limits.ensures
