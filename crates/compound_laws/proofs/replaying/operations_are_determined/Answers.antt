use Rattle.compound_laws.proofs.Determined.{runs_same}
use Rattle.compound_laws.proofs.replaying.operations_are_determined.Goals as goal

pub returns : goal.returns
returns k c n bytes old results others new last a b at =
    let both = runs_same c n bytes old results others new last a b at in (both.0, both.1.realm, both.1.settings)
