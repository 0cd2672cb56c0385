use Rattle.trail_keeper.proofs.Once.{kept_once}
use Rattle.trail_keeper.proofs.laws.each_line_is_kept_once.Goals as goal

pub returns : goal.returns
returns g c = kept_once g.W.Write.contents
