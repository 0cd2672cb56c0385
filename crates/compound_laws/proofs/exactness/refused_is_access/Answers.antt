use Rattle.compound_laws.proofs.RowsHold.{is_refused}
use Rattle.compound_laws.proofs.exactness.refused_is_access.Goals as goal

pub returns : goal.returns
returns c = is_refused
