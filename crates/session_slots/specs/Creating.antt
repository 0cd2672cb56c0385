-- CREATE_SESSION (RFC 8881, section 18.36), by its arguments and by the history of a client's calls.
use Rattle.std.specs.Prelude.{◌≡◌, ◌⊎◌, ℕ, ◌+◌, ◌%◌, ◌^◌, ◌==◌, ◌&&◌, ◌||◌, Bool, true, false, not, nat_lt, nat_le, min}
use Rattle.std.specs.Prelude.{max, if◌then◌else◌, List, [], ◌∷◌, length, find, Option, Some, None, Result, Ok, Err}
use Rattle.std.specs.Option.{option_map}
use Rattle.std.specs.Map.{values_of}
use Rattle.std.specs.BTreeMap.{insert_entry}
use Rattle.std.specs.Ordering.{nat_cmp}
use Rattle.nfs_types.specs.declared.status.Status.{Status}
use Rattle.nfs_types.specs.declared.status.Status.TheVariants as statuses
use Rattle.session_slots.specs.declared.session.Channel.{Channel}
use Rattle.session_slots.specs.declared.client.Created.{Created}
use Rattle.session_slots.specs.declared.client.Creation.{Creation}
use Rattle.session_slots.specs.declared.creating.Create.{Create}
use Rattle.session_slots.specs.declared.creating.Made.{Made}
use Rattle.session_slots.specs.declared.creating.Judged.{Judged}
use Rattle.session_slots.specs.declared.creating.Judged.TheVariants.{Answers, Refuses, Makes}
use Rattle.session_slots.specs.Limits.{MOST_SLOTS, MOST_BYTES, LEAST_REPLY, MOST_OPERATIONS, END}
use Rattle.session_slots.specs.Counting.{due, accepted, last_number, RepresentsHistory}
use Rattle.session_slots.specs.Registry.{Client, Registry, client_at, is_confirmed_of, changed_client, new_session}
use Rattle.session_slots.specs.Registry.{without_record, without_sessions}

abbrev pub number_of : Creation → ℕ
number_of c = c.number

-- the result of the last call, if this is its sequence ID
abbrev pub cached_result : Option Creation → ℕ → Option (Result Created Status)
cached_result None number = None
cached_result (Some kept) number = if kept.number == number then Some kept.result else None

-- the part of a channel that is granted
abbrev pub granted : Channel → Channel
granted asked = record {
  padding = 0;
  request_size = min asked.request_size MOST_BYTES;
  reply_size = min asked.reply_size MOST_BYTES;
  cached_size = min asked.reply_size MOST_BYTES;
  operations = max 1 (min asked.operations MOST_OPERATIONS);
  slots = max 1 (min asked.slots MOST_SLOTS);
}

-- why a call with the next sequence ID is refused
abbrev pub creation_fault : Client → Registry → Create → Option Status
creation_fault c r a =
    if not c.confirmed && not (c.uid == a.uid) then Some statuses.ClidInUse
    else if nat_lt a.fore.reply_size LEAST_REPLY then Some statuses.TooSmall
    else if nat_le r.limits.sessions (length r.sessions) || nat_le END r.next_session then Some statuses.NoSpc
    else None

-- the session: it is persistent if that was asked for, and if the server's sessions are persistent
abbrev pub created_of : Registry → Create → Created
created_of r a = record {
  session = r.next_session;
  sequence = a.sequence;
  persist = a.persist && a.lasting;
  fore = granted a.fore;
  back = a.back;
}

-- the call is accepted, with this result
abbrev pub accepts : Create → Result Created Status → Client → Client
accepts a result c = record c { created = Some (record { number = a.sequence; result = result }) }

abbrev pub with_refusal : Registry → Create → Status → Registry
with_refusal r a status = record r { clients = changed_client a.client (accepts a (Err status)) r.clients }

-- the owner's other confirmed record
abbrev pub is_other : List ℕ → ℕ → Client → Bool
is_other owner number c = is_confirmed_of owner c && not (c.number == number)

abbrev pub other_record : List ℕ → ℕ → List (ℕ × Client) → Option ℕ
other_record owner number clients = option_map (λ c. c.number) (find (is_other owner number) (values_of clients))

-- the record is confirmed, and the owner's other confirmed record is removed with its sessions
abbrev pub with_creation : Registry → Create → Option ℕ → Registry
with_creation r a other = record r {
  clients =
      changed_client a.client (λ c. record (accepts a (Ok (created_of r a)) c) { confirmed = true })
      (without_record other r.clients);
  sessions =
      without_sessions other (insert_entry nat_cmp r.sessions r.next_session (new_session a.client (granted a.fore)));
  next_session = r.next_session + 1;
}

abbrev pub refusing : Status → Made
refusing status = record { result = Err status; removed = None }

-- a call with the next sequence ID: it is refused and cached, or it creates a session
abbrev pub judged_due : Option Status → Client → Registry → Create → Judged
judged_due (Some status) c r a = Refuses status
judged_due None c r a = Makes (other_record c.owner a.client r.clients)

abbrev pub judged_unless : Option (Result Created Status) → Client → Registry → Create → Judged
judged_unless (Some kept) c r a = Answers (record { result = kept; removed = None })
judged_unless None c r a =
    if a.sequence == due (last_number number_of c.created) then judged_due (creation_fault c r a) c r a
    else Answers (refusing statuses.SeqMisordered)

abbrev pub judged_for : Option Client → Registry → Create → Judged
judged_for None r a = Answers (refusing statuses.StaleClientId)
judged_for (Some c) r a = judged_unless (cached_result c.created a.sequence) c r a

abbrev pub judged : Registry → Create → Judged
judged r a = judged_for (client_at r a.client) r a

abbrev pub delayed : Made
delayed = record { result = Err statuses.Delay; removed = None }

-- a session is created, unless an allocation fails: then nothing changes
abbrev pub MakesSession : Registry → Create → Option ℕ → Made → Registry → Type 0
MakesSession r a other made new =
    ((made ≡ record { result = Ok (created_of r a); removed = other }) × (new ≡ with_creation r a other))
    ⊎ ((made ≡ delayed) × (new ≡ r))

abbrev pub CreatesBy : Judged → Registry → Create → Made → Registry → Type 0
CreatesBy (Answers answer) r a made new = (made ≡ answer) × (new ≡ r)
CreatesBy (Refuses status) r a made new = (made ≡ refusing status) × (new ≡ with_refusal r a status)
CreatesBy (Makes other) r a made new = MakesSession r a other made new

-- the answer to CREATE_SESSION, and clients and sessions afterwards
abbrev pub Creates : Registry → Create → Made → Registry → Type 0
Creates r a made new = CreatesBy (judged r a) r a made new

-- ---- by history

abbrev pub is_delay_status : Status → Bool
is_delay_status statuses.Delay = true
is_delay_status _ = false

abbrev pub is_accepted : Result Created Status → Bool
is_accepted (Ok created) = true
is_accepted (Err status) = not (is_delay_status status)

-- a call whose allocation failed isn't accepted
abbrev pub keeps : Creation → Bool
keeps c = is_accepted c.result

abbrev pub RecordRepresents : Option Creation → List Creation → Type 0
RecordRepresents kept history = RepresentsHistory number_of keeps kept history

-- how a call is handled: it is new, or it gets this result
pub data CreationFate : Type 0 where
  Runs : CreationFate
  Gets : Result Created Status → CreationFate

abbrev pub fate_after : List Creation → ℕ → CreationFate
fate_after [] number = if number == 1 then Runs else Gets (Err statuses.SeqMisordered)
fate_after (last ∷ before) number =
    if number == length (last ∷ before) % 2 ^ 32 then Gets last.result
    else if number == due (length (last ∷ before)) then Runs
    else Gets (Err statuses.SeqMisordered)

abbrev pub fate : List Creation → ℕ → CreationFate
fate history number = fate_after (accepted number_of keeps history) number

abbrev pub Agrees : CreationFate → Result Created Status → Type 0
Agrees Runs result = Unit {0}
Agrees (Gets given) result = result ≡ given

-- For every history that the record represented, the call got the history's result, and the record represents the
-- history with the call.
pub record CreatesByHistory (old new : Option Creation) (number : ℕ) (result : Result Created Status) : Type 0 where
  pub fate : (history : List Creation) → RecordRepresents old history → Agrees (fate history number) result
  pub represents : (history : List Creation) → RecordRepresents old history
      → RecordRepresents new (record { number = number; result = result } ∷ history)

-- if the client has a record
pub record CreatesAt (old new : Registry) (a : Create) (result : Result Created Status) : Type 0 where
  pub by_history : (c : Client) → client_at old a.client ≡ Some c →
      (d : Client) × (client_at new a.client ≡ Some d) × CreatesByHistory c.created d.created a.sequence result
