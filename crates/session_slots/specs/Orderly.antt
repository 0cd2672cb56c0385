-- Records and sessions that belong together.
use Rattle.std.specs.Prelude.{◌≡◌, ℕ, ◌<◌, ◌≤◌, Bool, true, false, nat_lt, if◌then◌else◌, List, [], ◌∷◌, ◌⊎◌, Option}
use Rattle.std.specs.Prelude.{Some, None, Result, Ok, Err, length}
use Rattle.nfs_types.specs.declared.status.Status.{Status}
use Rattle.nfs_types.specs.declared.status.Status.TheVariants as statuses
use Rattle.session_slots.specs.declared.client.Created.{Created}
use Rattle.session_slots.specs.declared.client.Creation.{Creation}
use Rattle.session_slots.specs.Limits.{MOST_SLOTS, MOST_BYTES, LEAST_REPLY}
use Rattle.session_slots.specs.Limits.{MOST_OPERATIONS, MOST_OWNER, END}
use Rattle.session_slots.specs.declared.session.Channel.{Channel}
use Rattle.session_slots.specs.Registry.{Client, Session, Registry, client_at, is_confirmed_of}

-- the element is in the list
abbrev pub IsIn : {X : Type 0} → X → List X → Type 0
IsIn x [] = ⊥
IsIn x (y ∷ ys) = (x ≡ y) ⊎ IsIn x ys

-- a refusal of CREATE_SESSION that is cached with its sequence ID
abbrev pub is_cached_refusal : Status → Bool
is_cached_refusal statuses.NoSpc = true
is_cached_refusal statuses.TooSmall = true
is_cached_refusal statuses.ClidInUse = true
is_cached_refusal _ = false

abbrev pub is_cached_result : Result Created Status → Bool
is_cached_result (Ok created) = true
is_cached_result (Err status) = is_cached_refusal status

abbrev pub has_creation_form : Option Creation → Bool
has_creation_form None = true
has_creation_form (Some c) = is_cached_result c.result

-- A record has a form, in which it is stored, if two things hold. Its owner isn't too long, and a refusal that it
-- caches is one that may be cached.
abbrev pub has_form : Client → Bool
has_form c = if nat_lt MOST_OWNER (length c.owner) then false else has_creation_form c.created

-- the most that may be granted
pub record IsWithin (granted : Channel) : Type 0 where
  pub requests : granted.request_size ≤ MOST_BYTES
  pub least : LEAST_REPLY ≤ granted.reply_size
  pub replies : granted.reply_size ≤ MOST_BYTES
  pub operations : granted.operations ≤ MOST_OPERATIONS
  pub slots : granted.slots ≤ MOST_SLOTS

pub record IsOrderly (r : Registry) : Type 0 where
  -- a record is stored under its own client ID, which was given to it
  pub numbered : (e : ℕ × Client) → IsIn e r.clients → (e.1.number ≡ e.0) × (e.0 < r.next_client)
  -- an owner has at most one confirmed record
  pub one_confirmed : (owner : List ℕ) (e f : ℕ × Client) → IsIn e r.clients → IsIn f r.clients
      → is_confirmed_of owner e.1 ≡ true → is_confirmed_of owner f.1 ≡ true → e.0 ≡ f.0
  -- the number of a session was given to it
  pub given : (e : ℕ × Session) → IsIn e r.sessions → e.0 < r.next_session
  -- the client of a session has a confirmed record
  pub at_home : (e : ℕ × Session) → IsIn e r.sessions
      → (c : Client) × (client_at r e.1.client ≡ Some c) × (c.confirmed ≡ true)
  pub within : (e : ℕ × Session) → IsIn e r.sessions → IsWithin e.1.granted
  pub formed : (e : ℕ × Client) → IsIn e r.clients → has_form e.1 ≡ true
  -- records and sessions are within their limits, and no number is 2 ^ 63
  pub few_clients : length r.clients ≤ r.limits.clients
  pub few_sessions : length r.sessions ≤ r.limits.sessions
  pub clients_end : r.next_client ≤ END
  pub sessions_end : r.next_session ≤ END
