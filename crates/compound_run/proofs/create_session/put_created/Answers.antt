use Rattle.std.proofs.Common.{rules}
use Rattle.compound_run.proofs.Writing.{written_as}
use Rattle.compound_run.proofs.create_session.put_created.Goals as goal

pub returns-clause-written : goal.returns-clause-written
returns-clause-written g c = written_as _ _ _ _ c.put_result.ensures.written (search rules)
