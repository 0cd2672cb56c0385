use Rattle.rpc_record.proofs.Answers.{replied}
use Rattle.rpc_record.proofs.answered.what_is_replied_is_read.Goals as goal

pub returns : goal.returns
returns c = replied
