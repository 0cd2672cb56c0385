use Rattle.rpc_record.proofs.Answers.{gives, given}
use Rattle.rpc_record.proofs.answered.results_follow_an_accepted_reply.Goals as goal

pub returns-clause-given : goal.returns-clause-given
returns-clause-given c = given

pub returns-clause-gives : goal.returns-clause-gives
returns-clause-gives c = gives
