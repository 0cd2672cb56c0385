use Rattle.compound_laws.proofs.RowsHold.{first_is_granted, second_is_granted}
use Rattle.compound_laws.proofs.exactness.ok_is_granted.Goals as goal

pub returns-clause-first : goal.returns-clause-first
returns-clause-first c = first_is_granted

pub returns-clause-second : goal.returns-clause-second
returns-clause-second c = second_is_granted
