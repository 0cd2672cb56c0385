use Rattle.std.proofs.Common.{refl}
use Rattle.nfs_client.proofs.setting.setting_under.Goals as goal

pub returns-clause-asks : goal.returns-clause-asks
returns-clause-asks c = rw (c.set-set.ensures, c.in_ok-values.ensures) refl
