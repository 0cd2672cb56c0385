use Rattle.reason_laws.proofs.Tracing.{decision-removal, lines-removal}
use Rattle.reason_laws.proofs.laws.removal_reasons_are_decisions.Goals as goal

pub returns-clause-decision : goal.returns-clause-decision
returns-clause-decision c = decision-removal

pub returns-clause-lines : goal.returns-clause-lines
returns-clause-lines c = lines-removal
