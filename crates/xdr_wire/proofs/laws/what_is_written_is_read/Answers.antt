use Rattle.xdr_wire.specs.Xdr.{spelling}
use Rattle.xdr_wire.proofs.Spelling.{again, spelled}
use Rattle.xdr_wire.proofs.laws.what_is_written_is_read.Goals as goal

pub returns : goal.returns
returns c = λ t v rest h. again t v (spelling t v) rest (spelled t v h)
