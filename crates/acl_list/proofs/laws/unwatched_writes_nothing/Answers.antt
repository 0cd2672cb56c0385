use Rattle.acl_list.proofs.Watching.{unwatched_iff}
use Rattle.acl_list.proofs.laws.unwatched_writes_nothing.Goals as goal

pub returns : goal.returns
returns c = unwatched_iff
