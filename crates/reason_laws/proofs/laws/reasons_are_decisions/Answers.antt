use Rattle.reason_laws.proofs.Tracing.{decision-reason, lines-reason}
use Rattle.reason_laws.proofs.laws.reasons_are_decisions.Goals as goal

pub returns-clause-decision : goal.returns-clause-decision
returns-clause-decision c = decision-reason

pub returns-clause-lines : goal.returns-clause-lines
returns-clause-lines c = lines-reason
