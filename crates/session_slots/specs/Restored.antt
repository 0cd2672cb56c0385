-- Everything that is read out of a registry, restored in order: its records, and its sessions, each with the calls
-- that its slots cache.
use Rattle.std.specs.Prelude.{◌≡◌, ℕ, ◌+◌, true, List, [], ◌∷◌, ◌++◌, map, slice_get, Option, Some, None}
use Rattle.std.specs.Option.{option_map, IfSome}
use Rattle.session_slots.specs.Slots.{Cached, Place}
use Rattle.session_slots.specs.Registry.{Client, Session, Registry, session_at}
use Rattle.session_slots.specs.Orderly.{IsOrderly}
use Rattle.session_slots.specs.Sequencing.{HasSlots}
use Rattle.session_slots.specs.Restoring.{IsRising, number_from, nothing_yet, record_fits, with_record, session_fits}
use Rattle.session_slots.specs.Restoring.{with_restored, slot_fits, with_cached, kept_at, held_of}

-- These facts hold of every registry: by `counts`, by `held` for each session, and by `kept` for each slot.
pub record IsReadable (r : Registry) : Type 0 where
  pub orderly : IsOrderly r
  pub clients : IsRising r.clients
  pub sessions : IsRising r.sessions
  pub slots : (number : ℕ) (s : Session) → session_at r number ≡ Some s → HasSlots s.granted s.slots
  pub fit : (session slot : ℕ) (k : Cached) → kept_at r session slot ≡ Some k
      → slot_fits (session_at r session) slot k ≡ true

-- ---- reading

-- Asking for the least number from 0 on, and then from the number after each one that was found, returns all numbers
-- in order.
pub record IsReadInOrder {X : Type 0} (es : List (ℕ × X)) : Type 0 where
  pub first : number_from 0 es ≡ option_map (λ e. e.0) (slice_get es 0)
  pub next : (before after : List (ℕ × X)) (number : ℕ) (x : X) → es ≡ before ++ (number, x) ∷ after
      → number_from (number + 1) es ≡ option_map (λ e. e.0) (slice_get after 0)

-- ---- restoring

abbrev pub with_records : List (ℕ × Client) → Registry → Registry
with_records [] r = r
with_records (e ∷ es) r = with_records es (with_record r e.1)

abbrev pub with_call : ℕ → ℕ → Option Cached → Registry → Registry
with_call session slot None r = r
with_call session slot (Some k) r = with_cached r session slot k

-- with the calls of these slots, which begin at slot number `slot`
abbrev pub with_slots : ℕ → ℕ → List Place → Registry → Registry
with_slots session slot [] r = r
with_slots session slot (p ∷ ps) r = with_slots session (slot + 1) ps (with_call session slot p.kept r)

abbrev pub with_sessions : List (ℕ × Session) → Registry → Registry
with_sessions [] r = r
with_sessions (e ∷ es) r = with_sessions es (with_slots e.0 0 e.1.slots (with_restored r e.0 (held_of e.1)))

abbrev pub with_all : Registry → Registry
with_all r = with_sessions r.sessions (with_records r.clients (nothing_yet r.limits r.next_client r.next_session))

-- each part fits when its turn comes
abbrev pub RecordsFit : List (ℕ × Client) → Registry → Type 0
RecordsFit [] r = Unit {0}
RecordsFit (e ∷ es) r = (record_fits r e.1 ≡ true) × RecordsFit es (with_record r e.1)

abbrev pub SlotsFit : ℕ → ℕ → List Place → Registry → Type 0
SlotsFit session slot [] r = Unit {0}
SlotsFit session slot (p ∷ ps) r =
    IfSome p.kept (λ k. slot_fits (session_at r session) slot k ≡ true)
    × SlotsFit session (slot + 1) ps (with_call session slot p.kept r)

abbrev pub SessionsFit : List (ℕ × Session) → Registry → Type 0
SessionsFit [] r = Unit {0}
SessionsFit (e ∷ es) r =
    (session_fits r e.0 (held_of e.1) ≡ true) × SlotsFit e.0 0 e.1.slots (with_restored r e.0 (held_of e.1))
    × SessionsFit es (with_slots e.0 0 e.1.slots (with_restored r e.0 (held_of e.1)))

-- ---- after a restart

abbrev pub lagging : Place → Place
lagging p = record p { lags = true }

abbrev pub lagging_session : Session → Session
lagging_session s = record s { slots = map lagging s.slots }

abbrev pub lagging_entry : ℕ × Session → ℕ × Session
lagging_entry e = (e.0, lagging_session e.1)

-- the registry, in which every slot lags
abbrev pub all_lagging : Registry → Registry
all_lagging r = record r { sessions = map lagging_entry r.sessions }

-- Each part fits, and together they make the registry, in which every slot lags.
pub record IsRestored (r : Registry) : Type 0 where
  pub records_fit : RecordsFit r.clients (nothing_yet r.limits r.next_client r.next_session)
  pub sessions_fit : SessionsFit r.sessions (with_records r.clients (nothing_yet r.limits r.next_client r.next_session))
  pub whole : with_all r ≡ all_lagging r
