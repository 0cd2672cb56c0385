-- How stored clients, sessions and slots are restored after a restart (RFC 8881, section 2.10.6.5).
use Rattle.std.specs.Prelude.{◌≡◌, ℕ, ◌&&◌, Bool, false, not, nat_lt, nat_le, List, [], map, length, Option, Some, None}
use Rattle.std.specs.Prelude.{is_some, is_none, find}
use Rattle.std.specs.List.Sorted.{IsStrictlySortedBy}
use Rattle.std.specs.Map.{keys_of}
use Rattle.std.specs.Option.{option_and_then}
use Rattle.std.specs.BTreeMap.{insert_entry}
use Rattle.std.specs.Ordering.{nat_cmp}
use Rattle.nfs_types.specs.Limits.{Limits}
use Rattle.session_slots.specs.declared.session.Channel.{Channel}
use Rattle.session_slots.specs.declared.session.Held.{Held}
use Rattle.session_slots.specs.Limits.{MOST_SLOTS, MOST_BYTES, LEAST_REPLY}
use Rattle.session_slots.specs.Limits.{MOST_OPERATIONS, END}
use Rattle.session_slots.specs.Slots.{Cached, restored}
use Rattle.session_slots.specs.Orderly.{has_form}
use Rattle.session_slots.specs.Registry.{Client, Session, Registry, client_at, session_at, place_at, confirmed_entry}
use Rattle.session_slots.specs.Registry.{cache_size, restored_session, with_session, with_place}

-- nothing is restored yet: the next client and the next session get these numbers
abbrev pub nothing_yet : Limits → ℕ → ℕ → Registry
nothing_yet limits next_client next_session = record {
  limits = limits;
  clients = [];
  sessions = [];
  next_client = next_client;
  next_session = next_session;
}

-- Numbers that the next client and the next session may get: none is below the number that it replaces, or above 2 ^
-- 63.
abbrev pub numbers_fit : Registry → ℕ → ℕ → Bool
numbers_fit r next_client next_session =
    nat_le r.next_client next_client
    && (nat_le r.next_session next_session && (nat_le next_client END && nat_le next_session END))

abbrev pub with_numbers : ℕ → ℕ → Registry → Registry
with_numbers next_client next_session r = record r { next_client = next_client; next_session = next_session }

-- ---- a record

-- a record fits beside the existing ones
abbrev pub record_fits : Registry → Client → Bool
record_fits r c =
    nat_lt c.number r.next_client
    && (nat_lt (length r.clients) r.limits.clients
    && (is_none (client_at r c.number) && (not (c.confirmed && is_some (confirmed_entry r c.owner)) && has_form c)))

abbrev pub with_record : Registry → Client → Registry
with_record r c = record r { clients = insert_entry nat_cmp r.clients c.number c }

-- ---- a session

-- no more is granted than may be
abbrev pub is_within : Channel → Bool
is_within g =
    nat_le g.request_size MOST_BYTES
    && (nat_le LEAST_REPLY g.reply_size
    && (nat_le g.reply_size MOST_BYTES
    && (nat_le g.operations MOST_OPERATIONS && (nat_le g.slots MOST_SLOTS && nat_le 1 g.slots))))

abbrev pub is_home : Option Client → Bool
is_home None = false
is_home (Some c) = c.confirmed

-- a session fits: its number was given and is free, and its client has a confirmed record
abbrev pub session_fits : Registry → ℕ → Held → Bool
session_fits r number held =
    nat_lt number r.next_session
    && (nat_lt (length r.sessions) r.limits.sessions
    && (is_none (session_at r number) && (is_home (client_at r held.client) && is_within held.granted)))

abbrev pub with_restored : Registry → ℕ → Held → Registry
with_restored r number held =
    record r { sessions = insert_entry nat_cmp r.sessions number (restored_session held.client held.granted) }

-- ---- a slot

-- a call fits a slot: the slot exists, and has room
abbrev pub slot_fits : Option Session → ℕ → Cached → Bool
slot_fits None slot k = false
slot_fits (Some s) slot k =
    nat_lt slot s.granted.slots
    && (nat_le (length k.call.arguments) s.granted.request_size && nat_le (length k.results) (cache_size s.granted))

abbrev pub with_cached : Registry → ℕ → ℕ → Cached → Registry
with_cached r session slot k = with_session session (with_place slot (restored k)) r

-- ---- the parts that are read out

-- each number is below those after it
abbrev pub IsRising : {X : Type 0} → List (ℕ × X) → Type 0
IsRising es = IsStrictlySortedBy nat_cmp (keys_of es)

-- the least number that is at least `number`
abbrev pub number_from : {X : Type 0} → ℕ → List (ℕ × X) → Option ℕ
number_from number es = find (λ n. nat_le number n) (keys_of es)

abbrev pub held_of : Session → Held
held_of s = record { client = s.client; granted = s.granted }

-- the call that a slot caches
abbrev pub kept_at : Registry → ℕ → ℕ → Option Cached
kept_at r session slot = option_and_then (λ p. p.kept) (place_at r session slot)

-- the sessions without their slots, by number
abbrev pub headed : ℕ × Session → ℕ × Held
headed e = (e.0, held_of e.1)

abbrev pub heads : Registry → List (ℕ × Held)
heads r = map headed r.sessions

-- limits, records, sessions and next numbers stay, whatever slots do
pub record HeadsStay (old new : Registry) : Type 0 where
  pub limits : new.limits ≡ old.limits
  pub records : new.clients ≡ old.clients
  pub sessions : heads new ≡ heads old
  pub next_client : new.next_client ≡ old.next_client
  pub next_session : new.next_session ≡ old.next_session
