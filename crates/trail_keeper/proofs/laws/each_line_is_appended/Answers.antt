use Rattle.trail_keeper.proofs.Kept.{appends_each}
use Rattle.trail_keeper.proofs.laws.each_line_is_appended.Goals as goal

pub returns : goal.returns
returns c = appends_each
