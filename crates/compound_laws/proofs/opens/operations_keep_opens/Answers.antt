use Rattle.compound_laws.proofs.KeepingOpens.{operations_keep}
use Rattle.compound_laws.proofs.opens.operations_keep_opens.Goals as goal

pub returns : goal.returns
returns c = operations_keep
