use Rattle.nfs_client.proofs.setting.setting.Goals as goal

pub returns-clause-asks : goal.returns-clause-asks
returns-clause-asks c = rw c.anonymous.ensures at c.setting_under.ensures.asks
