use Rattle.access_guard.proofs.Remembering.{agrees_anew, found_none}
use Rattle.access_guard.proofs.laws.reloads_keep_agreement.Goals as goal

pub returns-clause-agrees : goal.returns-clause-agrees
returns-clause-agrees c = agrees_anew

pub returns-clause-anew : goal.returns-clause-anew
returns-clause-anew c = found_none
