use Rattle.hub_laws.proofs.Served.{steps_last}
use Rattle.hub_laws.proofs.steps.steps_leave_lasting.Goals as goal

pub returns : goal.returns
returns c = steps_last
