use Rattle.checkpoint.proofs.Generations.{new_law}
use Rattle.checkpoint.proofs.laws.a_checkpoint_leaves_the_next_generation_new.Goals as goal

pub returns : goal.returns
returns c = new_law
