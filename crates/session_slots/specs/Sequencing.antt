-- SEQUENCE (RFC 8881, section 18.46).
use Rattle.std.specs.Prelude.{◌≡◌, ℕ, ◌+◌, ◌-◌, ◌≤◌, nat_lt, nat_le, if◌then◌else◌, List, length, All, slice_get}
use Rattle.std.specs.Prelude.{Option, Some, None, IsSome}
use Rattle.nfs_types.specs.declared.status.Status.{Status}
use Rattle.nfs_types.specs.declared.status.Status.TheVariants as statuses
use Rattle.session_slots.specs.declared.session.Channel.{Channel}
use Rattle.session_slots.specs.declared.session.Begin.{Begin}
use Rattle.session_slots.specs.declared.session.Begin.TheVariants as begins
use Rattle.session_slots.specs.declared.slot.Turn.{Turn}
use Rattle.session_slots.specs.declared.slot.Turn.TheVariants as turns
use Rattle.session_slots.specs.Limits.{MOST_BYTES, LEAST_REPLY}
use Rattle.session_slots.specs.Slots.{Call, Place, turn_of, begun, BeginsBy, KeepsByHistory}
use Rattle.session_slots.specs.Registry.{Session, Registry, cache_size, session_at, place_at, client_at, with_session}
use Rattle.session_slots.specs.Registry.{with_place}

-- the arguments of SEQUENCE, and its COMPOUND
pub record Asked : Type 0 where
  pub slot : ℕ
  pub highest : ℕ
  -- how many operations the COMPOUND has, and how many bytes its record
  pub count : ℕ
  pub record_len : ℕ
  pub call : Call

-- a refusal before the sequence ID is checked
abbrev pub grant_fault : Channel → Asked → Option Status
grant_fault granted a =
    if nat_lt granted.request_size a.record_len then Some statuses.ReqTooBig
    else if nat_lt granted.operations a.count then Some statuses.TooManyOps
    else if nat_le granted.slots a.slot then Some statuses.BadSlot
    else if nat_le granted.slots a.highest then Some statuses.BadHighSlot
    else None

abbrev pub place_turn : Option Place → Call → Turn
place_turn None call = turns.Refused statuses.BadSlot
place_turn (Some p) call = turn_of p.lags p.kept call

abbrev pub turn_unless : Option Status → Session → Asked → Turn
turn_unless (Some status) s a = turns.Refused status
turn_unless None s a = place_turn (slice_get s.slots a.slot) a.call

abbrev pub session_turn : Session → Asked → Turn
session_turn s a = turn_unless (grant_fault s.granted a) s a

abbrev pub begun_unless : Option Status → Session → Asked → Session
begun_unless (Some status) s a = s
begun_unless None s a = with_place a.slot (λ p. begun p a.call) s

abbrev pub session_begun : Session → Asked → Session
session_begun s a = begun_unless (grant_fault s.granted a) s a

-- the answer to a turn: a new call gets its client, the size of its reply, and the highest slot
abbrev pub begin_of : ℕ → Channel → Turn → Begin
begin_of client granted turns.New = begins.New (record {
  client = client;
  reply_size = granted.reply_size;
  highest_slot = granted.slots - 1;
})
begin_of client granted turns.Repeat = begins.Repeat
begin_of client granted (turns.Refused status) = begins.Refused status

abbrev pub session_begin : Session → Asked → Begin
session_begin s a = begin_of s.client s.granted (session_turn s a)

abbrev pub begin_in : Option Session → Asked → Begin
begin_in None a = begins.Refused statuses.BadSession
begin_in (Some s) a = session_begin s a

-- the answer to SEQUENCE, and the sessions afterwards
abbrev pub sequence_begin : Registry → ℕ → Asked → Begin
sequence_begin r session a = begin_in (session_at r session) a

abbrev pub sequence_begun : Registry → ℕ → Asked → Registry
sequence_begun r session a = with_session session (λ s. session_begun s a) r

-- the answer to a call that isn't new
abbrev pub UnlessNew : Begin → Type 0 → Type 0
UnlessNew (begins.New new) A = Unit {0}
UnlessNew begins.Repeat A = A
UnlessNew (begins.Refused status) A = A

-- a session has as many slots as were granted, each with the granted room
pub record HasSlots (granted : Channel) (slots : List Place) : Type 0 where
  pub count : length slots ≡ granted.slots
  pub some : 1 ≤ granted.slots
  pub arguments : All (λ p. p.most_arguments ≡ granted.request_size) slots
  pub results : All (λ p. p.most_results ≡ cache_size granted) slots

-- the turn of an answer
abbrev pub turn_of_begin : Begin → Turn
turn_of_begin (begins.New new) = turns.New
turn_of_begin begins.Repeat = turns.Repeat
turn_of_begin (begins.Refused status) = turns.Refused status

-- A call that isn't refused before its sequence ID is checked. For every history of its slot it gets the history's
-- result, and the slot represents the history with the call.
pub record SequencesByHistory (old new : Registry) (session : ℕ) (a : Asked) (answer : Begin) : Type 0 where
  pub by_history : (s : Session) (p : Place) → session_at old session ≡ Some s → grant_fault s.granted a ≡ None
      → slice_get s.slots a.slot ≡ Some p →
      (q : Place) × (place_at new session a.slot ≡ Some q) × BeginsBy p.lags p.kept q a.call (turn_of_begin answer)

-- The session of a new call exists, with its slot and its client, until one of them is destroyed. Its results may be
-- cached.
abbrev pub HasSlot : Registry → ℕ → ℕ → Begin → Type 0
HasSlot r session slot (begins.New new) =
    (s : Session) × (session_at r session ≡ Some s) × (s.client ≡ new.client) × (s.granted.reply_size ≡ new.reply_size)
    × (s.granted.slots ≡ new.highest_slot + 1) × (slot ≤ new.highest_slot) × IsSome (client_at r new.client)
    × (LEAST_REPLY ≤ new.reply_size) × (new.reply_size ≤ MOST_BYTES)
HasSlot r session slot begins.Repeat = Unit {0}
HasSlot r session slot (begins.Refused status) = Unit {0}

-- A slot that exists has the results of its newest call now, for every history.
pub record KeepsAt (old new : Registry) (session slot : ℕ) (results : List ℕ) : Type 0 where
  pub by_history : (s : Session) (p : Place) → session_at old session ≡ Some s → slice_get s.slots slot ≡ Some p →
      (q : Place) × (place_at new session slot ≡ Some q) × KeepsByHistory p.kept q.kept results
