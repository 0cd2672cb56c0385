use Rattle.hub_laws.proofs.Settled.{steps_later}
use Rattle.hub_laws.proofs.steps.steps_leave_epochs.Goals as goal

pub returns : goal.returns
returns c = steps_later
