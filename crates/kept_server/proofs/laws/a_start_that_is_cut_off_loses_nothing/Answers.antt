use Rattle.kept_server.proofs.Cut.{cut_off_law}
use Rattle.kept_server.proofs.laws.a_start_that_is_cut_off_loses_nothing.Goals as goal

pub returns : goal.returns
returns c = cut_off_law
