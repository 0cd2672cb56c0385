use Rattle.std.proofs.Common.{sym, subst}
use Rattle.session_slots.specs.Sequencing.{HasSlots}
use Rattle.session_slots.proofs.Places.{lagging_has_slots}
use Rattle.session_slots.proofs.session.Session.lag.Goals as goal

pub invariant_of-self : goal.invariant_of-self
invariant_of-self g c =
    subst (λ slots. HasSlots c.self.inside.granted slots) (sym c.lag_at.ensures)
    (lagging_has_slots c.self.inside.granted c.args.number c.self.inside.slots.items c.self.invariant)
