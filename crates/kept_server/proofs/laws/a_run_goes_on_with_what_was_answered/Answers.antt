use Rattle.kept_server.proofs.Cut.{goes_on_law}
use Rattle.kept_server.proofs.laws.a_run_goes_on_with_what_was_answered.Goals as goal

pub returns : goal.returns
returns g c = goes_on_law g.row.A.Denot
