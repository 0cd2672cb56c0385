use Rattle.compound_laws.proofs.RowsHold.{first_is_asked, second_is_asked}
use Rattle.compound_laws.proofs.exactness.each_row_is_asked.Goals as goal

pub returns-clause-first : goal.returns-clause-first
returns-clause-first c = first_is_asked

pub returns-clause-second : goal.returns-clause-second
returns-clause-second c = second_is_asked
