-- Turns of a server that keeps sessions, and restarts between them (RFC 8881, section 2.10.6.5). A turn runs calls on
-- many slots, which change one world. Then it is stored whole, or not at all. Its replies are sent after that.
use Rattle.std.specs.Prelude.{◌≡◌, ◌≢◌, ◌⊎◌, ℕ, ◌<◌, Bool, true, false, List, [], ◌∷◌, length, Option, Some}
use Rattle.session_slots.specs.declared.slot.Turn.{Turn}
use Rattle.session_slots.specs.declared.slot.Turn.TheVariants as turns
use Rattle.session_slots.specs.Limits.{WRITTEN_EVERY}
use Rattle.session_slots.specs.Counting.{ahead, last_number}
use Rattle.session_slots.specs.Slots.{Call, Cached, number_of, turn_of}
use Rattle.session_slots.specs.Acting.{Memory, Entry, State, unused, Sends, begun_again}

-- A server between two turns, and the world as it was stored last. A slot has its stored call and the call that it
-- caches.
pub record Server (World : Type 0) : Type 0 where
  pub now : State World
  pub stored : World

-- no call was sent, and the world is stored
abbrev pub begun : {World : Type 0} → World → Server World
begun w = record { now = unused w; stored = w }

-- ---- the rule of storing turns

-- `settled` gives a slot as it is after a turn is stored. The other two hold for a turn that isn't stored: `leaves` for
-- the worlds before and after each call of it, `near` for the stored call of each slot and the one that it caches.
pub record Rule (World : Type 0) : Type 1 where
  pub settled : Memory → Memory
  pub leaves : World → World → Type 0
  pub near : Option Cached → Option Cached → Type 0

-- the stored call is the cached one
abbrev pub with_cached : Memory → Memory
with_cached m = record m { stored = m.kept }

-- fewer than 2^20 calls follow the stored one, modulo 2^32
abbrev pub IsNear : Option Cached → Option Cached → Type 0
IsNear stored kept =
    (stored ≡ kept) ⊎ (ahead (last_number number_of stored) (last_number number_of kept) < WRITTEN_EVERY)

-- A turn is stored unless each of its calls has left the world as it was.
abbrev pub stores_turns : (World : Type 0) → Rule World
stores_turns World = record { settled = with_cached; leaves = λ old new. new ≡ old; near = IsNear }

-- A turn has fewer calls. It gets at most 131,072 bytes of each of 16 connections, 2^21 bytes in all, and a call has
-- more than two bytes. The rule includes this bound, since sequence IDs are modulo 2^32. After 2^32 calls in one turn a
-- slot would seem to be near.
abbrev pub MOST_IN_TURN : ℕ
MOST_IN_TURN = 1048576

-- After these calls nothing has to be stored.
pub record MayWait {World : Type 0} (rule : Rule World) (calls : List (ℕ × Call)) (stored : World)
    (s : State World) : Type 0 where
  pub world : s.world ≡ stored
  pub near : (slot : ℕ) → rule.near (s.slots slot).stored (s.slots slot).kept
  pub few : length calls < MOST_IN_TURN

-- ---- a turn

-- A new call on a slot is run, and cached with its results. It counts as written if the turn is stored.
pub record RunsIn {World : Type 0} (rule : Rule World) (run : Call → World → List ℕ → World → Type 0) (stores : Bool)
    (c : ℕ × Call) (old new : State World) : Type 0 where
  pub results : List ℕ
  pub before : List Entry
  pub sent : Sends c.0 old.calls c.1.number before
  pub ran : run c.1 old.world results new.world
  pub leaves : stores ≡ false → rule.leaves old.world new.world
  pub holds : new.calls
      ≡ record { slot = c.0; kept = record { call = c.1; results = results }; written = stores } ∷ before
  pub memory : new.slots c.0 ≡ record {
    lags = false;
    kept = Some (record { call = c.1; results = results });
    stored = (old.slots c.0).stored;
  }
  pub others : (other : ℕ) → other ≢ c.0 → new.slots other ≡ old.slots other

-- a call by its turn on its slot: only a new one is run, and any other changes nothing
abbrev pub IfNew : Turn → Type 0 → Type 0 → Type 0
IfNew turns.New runs stays = runs
IfNew turns.Repeat runs stays = stays
IfNew (turns.Refused status) runs stays = stays

-- the calls of a turn, each on its slot, one after the other
abbrev pub Runs : {World : Type 0} → Rule World → (Call → World → List ℕ → World → Type 0) → Bool →
    List (ℕ × Call) → State World → State World → Type 0
Runs rule run stores [] old new = new ≡ old
Runs {World} rule run stores (c ∷ calls) old new =
    (mid : State World)
    × IfNew (turn_of (old.slots c.0).lags (old.slots c.0).kept c.1) (RunsIn rule run stores c old mid) (mid ≡ old)
    × Runs rule run stores calls mid new

-- the world is stored, and the slots with it
abbrev pub all_stored : {World : Type 0} → Rule World → State World → Server World
all_stored rule s = record { now = record s { slots = λ slot. rule.settled (s.slots slot) }; stored = s.world }

-- how a turn ends, before its replies are sent
abbrev pub Ends : {World : Type 0} → Rule World → Bool → List (ℕ × Call) → World → State World →
    Server World → Type 0
Ends rule true calls stored s new = new ≡ all_stored rule s
Ends rule false calls stored s new = MayWait rule calls stored s × (new ≡ record { now = s; stored = stored })

-- ---- turns and restarts

-- the state after a restart: the world and the slots as they were stored, and each slot lags
abbrev pub found : {World : Type 0} → Server World → Server World
found server = record server {
  now = record server.now { world = server.stored; slots = λ slot. begun_again (server.now.slots slot) };
}

-- A turn of these calls, and whether it is stored; or a restart. A crash in a turn before the turn is stored leaves
-- nothing of it, and none of its replies was sent. It counts as a restart before the turn. A crash after the turn is
-- stored and before its replies are sent counts as a restart after the turn.
pub data Event : Type 0 where
  Serves : List (ℕ × Call) → Bool → Event
  Restarts : Event

abbrev pub Step : {World : Type 0} → Rule World → (Call → World → List ℕ → World → Type 0) → Event →
    Server World → Server World → Type 0
Step {World} rule run (Serves calls stores) old new =
    (s : State World) × Runs rule run stores calls old.now s × Ends rule stores calls old.stored s new
Step rule run Restarts old new = new ≡ found old

abbrev pub Steps : {World : Type 0} → Rule World → (Call → World → List ℕ → World → Type 0) → List Event →
    Server World → Server World → Type 0
Steps rule run [] old new = new ≡ old
Steps {World} rule run (event ∷ events) old new =
    (mid : Server World) × Step rule run event old mid × Steps rule run events mid new
