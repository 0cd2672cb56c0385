use Rattle.compound_laws.proofs.LivingOpens.{hold_unopened, hold_restored}
use Rattle.compound_laws.proofs.opens.opens_hold_at_first.Goals as goal

pub returns : goal.returns
returns c = record { fresh = hold_unopened; restarted = hold_restored }
