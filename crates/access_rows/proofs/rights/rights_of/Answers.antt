use Rattle.access_rows.proofs.Granting.{rights_bits}
use Rattle.access_rows.proofs.rights.rights_of.Goals as goal

pub returns-clause-exact : goal.returns-clause-exact
returns-clause-exact c = rw c.granted_rights.ensures (rights_bits _ c.args.grants)
