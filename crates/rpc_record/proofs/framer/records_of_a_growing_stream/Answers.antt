use Rattle.rpc_record.proofs.Steps.{record_more, breaks_more}
use Rattle.rpc_record.proofs.framer.records_of_a_growing_stream.Goals as goal

pub returns-clause-next : goal.returns-clause-next
returns-clause-next c = record_more

pub returns-clause-broken : goal.returns-clause-broken
returns-clause-broken c = breaks_more
