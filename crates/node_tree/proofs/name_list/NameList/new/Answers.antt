use Rattle.node_tree.proofs.Listed.{listed_none}
use Rattle.node_tree.proofs.name_list.NameList.new.Goals as goal

pub invariant_of-result : goal.invariant_of-result
invariant_of-result g c = listed_none _ _ _ c.new.ensures.empty c.new-2.ensures.empty c.new-3.ensures.empty
