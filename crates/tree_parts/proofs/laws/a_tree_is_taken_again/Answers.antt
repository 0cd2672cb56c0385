use Rattle.tree_parts.proofs.Again.{taken_again}
use Rattle.tree_parts.proofs.laws.a_tree_is_taken_again.Goals as goal

pub returns : goal.returns
returns c = taken_again
