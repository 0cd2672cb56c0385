use Rattle.compound_run.proofs.Exactly.{rows_decide}
use Rattle.compound_laws.proofs.exactness.rows_decide.Goals as goal

pub returns : goal.returns
returns c = rows_decide
