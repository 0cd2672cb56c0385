use Rattle.trail_keeper.proofs.Kept.{settling_adds}
use Rattle.trail_keeper.proofs.laws.settling_adds_lines.Goals as goal

pub returns : goal.returns
returns c = settling_adds
