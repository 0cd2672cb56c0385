use Rattle.xdr_wire.proofs.Spelling.{one_at_a_prefix}
use Rattle.xdr_wire.proofs.laws.one_spelling_at_a_prefix.Goals as goal

pub returns : goal.returns
returns c = one_at_a_prefix
