use Rattle.rpc_record.proofs.GroupSets.{set_of, the_set, same_set, same_caller}
use Rattle.rpc_record.proofs.caller.groups_are_a_set.Goals as goal

pub returns-clause-is_set : goal.returns-clause-is_set
returns-clause-is_set c = set_of

pub returns-clause-one_set : goal.returns-clause-one_set
returns-clause-one_set c = the_set

pub returns-clause-same_set : goal.returns-clause-same_set
returns-clause-same_set c = same_set

pub returns-clause-same_caller : goal.returns-clause-same_caller
returns-clause-same_caller c = same_caller
