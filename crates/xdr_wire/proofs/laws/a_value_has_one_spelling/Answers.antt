use Rattle.xdr_wire.proofs.Canonical.{spelling_is}
use Rattle.xdr_wire.proofs.laws.a_value_has_one_spelling.Goals as goal

pub returns : goal.returns
returns c = spelling_is
