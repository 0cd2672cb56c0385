use Rattle.nfs_hub.specs.Machine.{Reload}
use Rattle.nfs_hub.proofs.Hubs.{extends_history, reloads}
use Rattle.nfs_hub.proofs.hub.Hub.reload.Goals as goal

pub returns-clause-goes : goal.returns-clause-goes
returns-clause-goes g c = reloads c.args.book c.args.self.now c.reload.new.self c.reload.ensures.loaded

pub returns-clause-extends : goal.returns-clause-extends
returns-clause-extends g c = extends_history (Reload c.args.book) c.args.self.now _ (returns-clause-goes g c)
