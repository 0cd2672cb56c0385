use Rattle.rpc_record.proofs.Unique.{one_cut}
use Rattle.rpc_record.proofs.framer.a_stream_has_one_cut.Goals as goal

pub returns : goal.returns
returns c = one_cut
