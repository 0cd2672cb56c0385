use Rattle.compound_laws.proofs.KeepingLasting.{operations_leave}
use Rattle.compound_laws.proofs.lasting.operations_leave_lasting.Goals as goal

pub returns : goal.returns
returns c = operations_leave
