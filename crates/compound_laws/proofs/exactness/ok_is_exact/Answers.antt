use Rattle.compound_run.proofs.Exactly.{passed, is_ok}
use Rattle.compound_laws.proofs.exactness.ok_is_exact.Goals as goal

pub returns : goal.returns
returns c caller s questions = (passed caller s questions, is_ok caller s questions)
