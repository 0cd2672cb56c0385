use Rattle.compound_laws.proofs.WrongOrders.{discloses}
use Rattle.compound_laws.proofs.disclosure.a_lookup_that_discloses_names_is_refused.Goals as goal

pub returns : goal.returns
returns c = discloses
