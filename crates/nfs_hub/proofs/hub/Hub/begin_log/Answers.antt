use Rattle.nfs_hub.specs.Machine.{BeginLog}
use Rattle.nfs_hub.proofs.Hubs.{extends_history, begins_log}
use Rattle.nfs_hub.proofs.hub.Hub.begin_log.Goals as goal

pub returns-clause-goes : goal.returns-clause-goes
returns-clause-goes g c = begins_log c.args.self.now c.begin_log.new.self c.begin_log.ensures

pub returns-clause-extends : goal.returns-clause-extends
returns-clause-extends g c = extends_history BeginLog c.args.self.now _ (returns-clause-goes g c)
