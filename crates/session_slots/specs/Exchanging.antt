-- EXCHANGE_ID (RFC 8881, section 18.35).
use Rattle.std.specs.Prelude.{◌≡◌, ◌⊎◌, ℕ, ◌+◌, ◌==◌, ◌&&◌, ◌||◌, Bool, true, false, not, nat_eq, nat_le, bit_and}
use Rattle.std.specs.Prelude.{if◌then◌else◌, List, length, filter, Option, Some, None, Result, Ok, Err}
use Rattle.std.specs.BTreeMap.{insert_entry}
use Rattle.std.specs.Ordering.{nat_cmp}
use Rattle.std.specs.Cmp.Lexicographic.{pointwise}
use Rattle.nfs_types.specs.declared.status.Status.{Status}
use Rattle.nfs_types.specs.declared.status.Status.TheVariants as statuses
use Rattle.session_slots.specs.declared.exchanging.Exchanged.{Exchanged}
use Rattle.session_slots.specs.declared.exchanging.ExchangeDecision.{ExchangeDecision}
use Rattle.session_slots.specs.declared.exchanging.ExchangeDecision.TheVariants.{Refuses, Knows, Makes}
use Rattle.session_slots.specs.Limits.{END, USE_NON_PNFS, UPDATE_CONFIRMED, CONFIRMED}
use Rattle.session_slots.specs.Counting.{due, last_number}
use Rattle.session_slots.specs.Creating.{number_of}
use Rattle.session_slots.specs.Registry.{Client, Registry, confirmed_entry, without_sessions}

-- the arguments of EXCHANGE_ID, the user of the caller, and whether the owner's confirmed record has opens
pub record Exchanging : Type 0 where
  pub owner : List ℕ
  pub verifier : ℕ
  pub uid : ℕ
  pub flags : ℕ
  pub has_opens : Bool

abbrev pub flags_fault : ℕ → Option Status
flags_fault flags =
    if not (bit_and flags CONFIRMED == 0) then Some statuses.Inval
    else if not (bit_and flags UPDATE_CONFIRMED == 0) then Some statuses.NotSupp
    else None

abbrev pub is_unconfirmed_of : List ℕ → Client → Bool
is_unconfirmed_of owner c = pointwise nat_eq c.owner owner && not c.confirmed

abbrev pub without_unconfirmed : List ℕ → Registry → Registry
without_unconfirmed owner r = record r { clients = filter (λ e. not (is_unconfirmed_of owner e.1)) r.clients }

-- this client is removed
abbrev pub goes : Option ℕ → ℕ → Bool
goes None number = false
goes (Some client) number = number == client

-- a record stays when this owner gets a new one, unless it is the owner's unconfirmed record or that of the client
-- that is removed
abbrev pub stays : Option ℕ → List ℕ → ℕ × Client → Bool
stays removed owner e = not (is_unconfirmed_of owner e.1) && not (goes removed e.0)

abbrev pub new_client : ℕ → Exchanging → Client
new_client number a = record {
  number = number;
  owner = a.owner;
  verifier = a.verifier;
  uid = a.uid;
  confirmed = false;
  created = None;
  reclaimed = false;
}

-- a new record, beside those that stay; the sessions of the client that is removed are removed too
abbrev pub with_client : Option ℕ → Registry → Exchanging → Registry
with_client removed r a = record r {
  clients =
      filter (λ e. e.0 == r.next_client || stays removed a.owner e)
      (insert_entry nat_cmp r.clients r.next_client (new_client r.next_client a));
  sessions = without_sessions removed r.sessions;
  next_client = r.next_client + 1;
}

abbrev pub is_full : Option ℕ → Registry → Exchanging → Bool
is_full removed r a =
    nat_le r.limits.clients (length (filter (stays removed a.owner) r.clients)) || nat_le END r.next_client

-- a new record, unless there are too many, or no client ID is left
abbrev pub decision_for_new : Option ℕ → Registry → Exchanging → ExchangeDecision
decision_for_new removed r a = if is_full removed r a then Refuses statuses.NoSpc else Makes removed

abbrev pub confirmed_answer : Client → Exchanged
confirmed_answer c = record { client = c.number; sequence = due (last_number number_of c.created); is_confirmed = true }

-- the answer by the confirmed record of the owner
abbrev pub decision_by_confirmed : Option Client → Registry → Exchanging → ExchangeDecision
decision_by_confirmed None r a = decision_for_new None r a
decision_by_confirmed (Some c) r a =
    if c.uid == a.uid then (if c.verifier == a.verifier then Knows (confirmed_answer c) else decision_for_new None r a)
    else if a.has_opens then Refuses statuses.ClidInUse
    else decision_for_new (Some c.number) r a

abbrev pub decision_unless : Option Status → Registry → Exchanging → ExchangeDecision
decision_unless (Some status) r a = Refuses status
decision_unless None r a = decision_by_confirmed (confirmed_entry r a.owner) r a

abbrev pub exchange_decision : Registry → Exchanging → ExchangeDecision
exchange_decision r a = decision_unless (flags_fault a.flags) r a

-- the flags of the answer
abbrev pub answered_flags : Exchanged → ℕ
answered_flags e = if e.is_confirmed then CONFIRMED + USE_NON_PNFS else USE_NON_PNFS

abbrev pub new_answer : ℕ → Exchanged
new_answer number = record { client = number; sequence = 1; is_confirmed = false }

-- a record is created, unless an allocation fails: then nothing changes
abbrev pub MakesClient : Registry → Exchanging → Option ℕ → Result Exchanged Status → Registry → Type 0
MakesClient r a removed result new =
    ((result ≡ Ok (new_answer r.next_client)) × (new ≡ with_client removed r a))
    ⊎ ((result ≡ Err statuses.Delay) × (new ≡ r))

abbrev pub ExchangesBy : ExchangeDecision → Registry → Exchanging → Result Exchanged Status → Registry → Type 0
ExchangesBy (Refuses status) r a result new = (result ≡ Err status) × (new ≡ r)
ExchangesBy (Knows confirmed_answer) r a result new = (result ≡ Ok confirmed_answer) × (new ≡ without_unconfirmed a.owner r)
ExchangesBy (Makes removed) r a result new = MakesClient r a removed result new

-- the answer to EXCHANGE_ID, and clients and sessions afterwards
abbrev pub Exchanges : Registry → Exchanging → Result Exchanged Status → Registry → Type 0
Exchanges r a result new = ExchangesBy (exchange_decision r a) r a result new
