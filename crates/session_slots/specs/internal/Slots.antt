-- A slot, by the history of its calls (RFC 8881, section 2.10.6.1).
use Rattle.std.specs.Prelude.{Bool, true, false}
use Rattle.std.specs.Prelude.{List, Option}
use Rattle.session_slots.specs.Slots.{Cached, LaggingRepresents, SlotRepresents}

-- the histories that a slot represents
abbrev pub PlaceRepresents : Bool → Option Cached → List Cached → Type 0
PlaceRepresents false kept history = SlotRepresents kept history
PlaceRepresents true kept history = LaggingRepresents kept history
