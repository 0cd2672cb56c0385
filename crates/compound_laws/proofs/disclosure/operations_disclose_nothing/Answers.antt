use Rattle.compound_laws.proofs.Operations.{laws_of}
use Rattle.compound_laws.proofs.disclosure.operations_disclose_nothing.Goals as goal

pub returns : goal.returns
returns c context handles op = (laws_of context handles op).discloses
