use Rattle.compound_run.proofs.Ending.{never_delayed}
use Rattle.compound_laws.proofs.exactness.others_never_delay.Goals as goal

pub returns : goal.returns
returns c = never_delayed
