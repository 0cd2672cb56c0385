use Rattle.std.proofs.Common.{arith}
use Rattle.rpc_record.proofs.Replies.{reply_spelled, reply_len_is}
use Rattle.rpc_record.proofs.reply.write_reply.Goals as goal

pub returns-clause-spelled : goal.returns-clause-spelled
returns-clause-spelled g c = reply_spelled c.args.xid c.args.reply (omega arith)

pub returns-clause-len : goal.returns-clause-len
returns-clause-len g c = reply_len_is c.args.xid c.args.reply
