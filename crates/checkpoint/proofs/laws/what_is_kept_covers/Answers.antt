use Rattle.checkpoint.proofs.Covering.{covers}
use Rattle.checkpoint.proofs.laws.what_is_kept_covers.Goals as goal

pub returns : goal.returns
returns c = covers
