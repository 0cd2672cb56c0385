use Rattle.xdr_wire.proofs.Spelling.{begins_from_read, read_from_begins}
use Rattle.xdr_wire.proofs.laws.reading_is_spelling.Goals as goal

pub returns : goal.returns
returns c = λ t v bytes rest. (begins_from_read t v bytes rest, read_from_begins t v bytes rest)
