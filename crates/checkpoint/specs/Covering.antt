-- A server that is restored over a checkpoint covers the server that wrote it (RFC 8881, section 2.10.6.5).
use Rattle.std.specs.Prelude.{◌≡◌, ◌≤◌, ◌<◌, ◌^◌, ℕ, true, IfSome}
use Rattle.session_slots.specs.Counting.{last_number}
use Rattle.session_slots.specs.Registry.{Registry, session_at}
use Rattle.session_slots.specs.Restoring.{IsRising, kept_at}
use Rattle.session_slots.specs.Orderly.{IsOrderly}
use Rattle.session_slots.specs.Sequencing.{HasSlots}
use Rattle.session_slots.specs.Slots.{number_of}
use Rattle.compound_run.specs.Covering.{Covers}
use Rattle.compound_run.specs.State.{State, restored}
use Rattle.checkpoint.specs.Kept.{Kept, IsOf}

-- A session has the slots that it was granted, and sequence IDs have 32 bits.
pub record IsSessionInOrder (r : Registry) (number : ℕ) : Type 0 where
  pub slots : IfSome (session_at r number) (λ s. HasSlots s.granted s.slots)
  pub numbers : (slot : ℕ) → last_number number_of (kept_at r number slot) < 2 ^ 32

-- Records and sessions as a server has them: their numbers rise, and each session is in order.
pub record IsInOrder (r : Registry) : Type 0 where
  pub orderly : IsOrderly r
  pub clients : IsRising r.clients
  pub sessions : IsRising r.sessions
  pub each : (number : ℕ) → IsSessionInOrder r number

abbrev pub CoversLaw : Type 0
CoversLaw =
    (k : Kept) (s : State) (capacity : ℕ) → IsOf k s → IsInOrder k.clients.registry → IsInOrder s.realm.registry
    → s.realm.lasting ≡ true → 1 ≤ s.settings.epoch
    → Covers (restored k.world k.clients k.book capacity) s
