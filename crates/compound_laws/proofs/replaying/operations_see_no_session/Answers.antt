use Rattle.compound_laws.proofs.OverSessions.{runs_over}
use Rattle.compound_laws.proofs.replaying.operations_see_no_session.Goals as goal

pub returns : goal.returns
returns c = runs_over
