use Rattle.xdr_wire.proofs.Spelling.{fault, no_fault}
use Rattle.xdr_wire.proofs.laws.fault_is_no_spelling.Goals as goal

pub returns : goal.returns
returns c = λ t bytes. (no_fault t bytes, fault t bytes)
