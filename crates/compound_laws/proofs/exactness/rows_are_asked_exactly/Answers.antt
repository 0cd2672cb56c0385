use Rattle.compound_laws.proofs.RowsHold.{rows_are_exact, lines_are_exact}
use Rattle.compound_laws.proofs.exactness.rows_are_asked_exactly.Goals as goal

pub returns-clause-rows : goal.returns-clause-rows
returns-clause-rows c = rows_are_exact

pub returns-clause-line : goal.returns-clause-line
returns-clause-line c = lines_are_exact
