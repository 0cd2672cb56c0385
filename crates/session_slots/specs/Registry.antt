-- Clients and their sessions, by number, and the slots of a session, by place (RFC 8881, sections 2.4 and 2.10).
use Rattle.std.specs.Prelude.{ℕ, ◌-◌, ◌==◌, ◌&&◌, Bool, true, false, not, nat_eq, List, [], filter, find, set}
use Rattle.std.specs.Prelude.{replicate, slice_get, Option, Some, None}
use Rattle.std.specs.Option.{option_map_or, option_and_then}
use Rattle.std.specs.Map.{lookup, set_value, values_of}
use Rattle.std.specs.BTreeMap.{is_at}
use Rattle.std.specs.Ordering.{nat_cmp}
use Rattle.std.specs.Cmp.Lexicographic.{pointwise}
use Rattle.nfs_types.specs.Limits.{Limits}
use Rattle.session_slots.specs.declared.session.Channel.{Channel}
use Rattle.session_slots.specs.declared.client.Creation.{Creation}
use Rattle.session_slots.specs.Limits.{REPLY_HEADER}
use Rattle.session_slots.specs.Slots.{Place, results_of}

pub record Session : Type 0 where
  -- the client ID of the session's client
  pub client : ℕ
  pub granted : Channel
  pub slots : List Place

-- the record of a client (RFC 8881, section 2.4)
pub record Client : Type 0 where
  pub number : ℕ
  pub owner : List ℕ
  pub verifier : ℕ
  -- the user for whom the record was created
  pub uid : ℕ
  pub confirmed : Bool
  -- the last CREATE_SESSION that was accepted, with its result
  pub created : Option Creation
  -- the client has sent RECLAIM_COMPLETE
  pub reclaimed : Bool

-- clients and sessions by rising number, the numbers of the next ones, and the limits, which never change
pub record Registry : Type 0 where
  pub limits : Limits
  pub clients : List (ℕ × Client)
  pub sessions : List (ℕ × Session)
  pub next_client : ℕ
  pub next_session : ℕ

abbrev pub nobody : Limits → Registry
nobody limits = record { limits = limits; clients = []; sessions = []; next_client = 1; next_session = 1 }

abbrev pub session_at : Registry → ℕ → Option Session
session_at r number = lookup (is_at (nat_cmp number)) r.sessions

abbrev pub place_at : Registry → ℕ → ℕ → Option Place
place_at r session slot = option_and_then (λ s. slice_get s.slots slot) (session_at r session)

abbrev pub client_at : Registry → ℕ → Option Client
client_at r number = lookup (is_at (nat_cmp number)) r.clients

abbrev pub place_results : Option Place → List ℕ
place_results None = []
place_results (Some p) = results_of p.kept

-- the results that a slot caches; none if it caches no call, or doesn't exist
abbrev pub results_at : Registry → ℕ → ℕ → List ℕ
results_at r session slot = place_results (place_at r session slot)

abbrev pub is_confirmed_of : List ℕ → Client → Bool
is_confirmed_of owner c = c.confirmed && pointwise nat_eq c.owner owner

-- the confirmed record of an owner
abbrev pub confirmed_entry : Registry → List ℕ → Option Client
confirmed_entry r owner = find (is_confirmed_of owner) (values_of r.clients)

-- the clients after a change f of the record of a client ID
abbrev pub changed_client : ℕ → (Client → Client) → List (ℕ × Client) → List (ℕ × Client)
changed_client number f clients =
    option_map_or (λ c. set_value (is_at (nat_cmp number)) clients (f c))
    (lookup (is_at (nat_cmp number)) clients) clients

-- the clients without the record of this client, if one is named
abbrev pub without_record : Option ℕ → List (ℕ × Client) → List (ℕ × Client)
without_record None clients = clients
without_record (Some client) clients = filter (λ e. not (e.0 == client)) clients

-- the sessions without those of this client, if one is named
abbrev pub without_sessions : Option ℕ → List (ℕ × Session) → List (ℕ × Session)
without_sessions None sessions = sessions
without_sessions (Some client) sessions = filter (λ e. not (e.1.client == client)) sessions

-- the sessions after a change f of the session of a number
abbrev pub changed_session : ℕ → (Session → Session) → List (ℕ × Session) → List (ℕ × Session)
changed_session number f sessions =
    option_map_or (λ s. set_value (is_at (nat_cmp number)) sessions (f s))
    (lookup (is_at (nat_cmp number)) sessions) sessions

abbrev pub with_session : ℕ → (Session → Session) → Registry → Registry
with_session number f r = record r { sessions = changed_session number f r.sessions }

-- the places after a change f of the place of a number
abbrev pub changed_place : ℕ → (Place → Place) → List Place → List Place
changed_place slot f slots = option_map_or (λ p. set slots slot (f p)) (slice_get slots slot) slots

abbrev pub with_place : ℕ → (Place → Place) → Session → Session
with_place slot f s = record s { slots = changed_place slot f s.slots }

-- `count` slots that have accepted no call, or that cache none and lag
abbrev pub unused_places : Bool → ℕ → ℕ → ℕ → List Place
unused_places lags count most_arguments most_results = replicate count (record {
  kept = None;
  most_arguments = most_arguments;
  most_results = most_results;
  lags = lags;
})

-- how many bytes of results each slot of a session caches: those of a reply after its header
abbrev pub cache_size : Channel → ℕ
cache_size granted = granted.reply_size - REPLY_HEADER

-- the room for results of each slot of a session that may be absent
abbrev pub most_cached : Option Session → ℕ
most_cached None = 0
most_cached (Some s) = cache_size s.granted

abbrev pub new_session : ℕ → Channel → Session
new_session client granted = record {
  client = client;
  granted = granted;
  slots = unused_places false granted.slots granted.request_size (cache_size granted);
}

-- a session after a restart, whose slots cache no call yet
abbrev pub restored_session : ℕ → Channel → Session
restored_session client granted = record {
  client = client;
  granted = granted;
  slots = unused_places true granted.slots granted.request_size (cache_size granted);
}
