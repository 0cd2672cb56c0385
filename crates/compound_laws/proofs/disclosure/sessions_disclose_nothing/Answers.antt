use Rattle.compound_laws.proofs.Alike.{alone_discloses_nothing, begins_alike}
use Rattle.compound_laws.proofs.disclosure.sessions_disclose_nothing.Goals as goal

pub returns : goal.returns
returns c = record { alone = alone_discloses_nothing; sequence = begins_alike }
