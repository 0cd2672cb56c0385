-- Two states of clients are equal.
use Rattle.std.specs.Prelude.{◌≡◌, ℕ}
use Rattle.std.specs.Option.{option_map}
use Rattle.session_slots.specs.Registry.{Registry, client_at, session_at}
use Rattle.session_slots.specs.Restoring.{held_of, kept_at}
use Rattle.compound_run.specs.ClientState.{ClientState}

-- the session of a number, without its slots, and the cached call of each of its slots
pub record IsSessionSame (r q : Registry) (number : ℕ) : Type 0 where
  pub held : option_map held_of (session_at r number) ≡ option_map held_of (session_at q number)
  pub slots : (slot : ℕ) → kept_at r number slot ≡ kept_at q number slot

-- The limits, the records, the sessions with their slots, the open files and the next numbers are equal.
pub record AreSame (old new : ClientState) : Type 0 where
  pub limits : old.registry.limits ≡ new.registry.limits
  pub records : (number : ℕ) → client_at old.registry number ≡ client_at new.registry number
  pub sessions : (number : ℕ) → IsSessionSame old.registry new.registry number
  pub next_client : old.registry.next_client ≡ new.registry.next_client
  pub next_session : old.registry.next_session ≡ new.registry.next_session
  pub opens : old.opens ≡ new.opens
  pub next_open : old.next_open ≡ new.next_open
