use Rattle.rpc_record.proofs.Steps.{unfinished}
use Rattle.rpc_record.proofs.framer.a_framer_has_read_the_rest.Goals as goal

pub returns : goal.returns
returns c = unfinished
