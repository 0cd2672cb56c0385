use Rattle.checkpoint.proofs.One.{holds_one}
use Rattle.checkpoint.proofs.laws.what_a_checkpoint_holds_is_one.Goals as goal

pub returns : goal.returns
returns c = holds_one
