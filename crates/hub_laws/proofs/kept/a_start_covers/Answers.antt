use Rattle.hub_laws.proofs.Logged.{start_covers}
use Rattle.hub_laws.proofs.kept.a_start_covers.Goals as goal

pub returns : goal.returns
returns c = start_covers
