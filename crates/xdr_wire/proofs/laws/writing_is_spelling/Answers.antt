use Rattle.xdr_wire.proofs.Spelling.{spelled}
use Rattle.xdr_wire.proofs.laws.writing_is_spelling.Goals as goal

pub returns : goal.returns
returns c = spelled
