-- Calls on many slots that change one world, and restarts between them: what changes the world acts
-- once (RFC 8881, section 2.10.6.5).
use Rattle.std.specs.Prelude.{◌≡◌, ◌≢◌, ◌⊎◌, ℕ, ◌==◌, Bool, true, false, if◌then◌else◌, List, [], ◌∷◌, ◌++◌, length}
use Rattle.std.specs.Prelude.{Option, Some, None}
use Rattle.session_slots.specs.declared.slot.Turn.{Turn}
use Rattle.session_slots.specs.declared.slot.Turn.TheVariants as turns
use Rattle.session_slots.specs.Counting.{due, is_written}
use Rattle.session_slots.specs.Slots.{Call, Cached, turn_of}

-- A slot as the server has it, and its call as it was last written.
pub record Memory : Type 0 where
  pub lags : Bool
  pub kept : Option Cached
  pub stored : Option Cached

-- a call in effect, with its slot, and whether the slot was written after it
pub record Entry : Type 0 where
  pub slot : ℕ
  pub kept : Cached
  pub written : Bool

pub record State (World : Type 0) : Type 0 where
  pub world : World
  pub slots : ℕ → Memory
  -- the calls in effect, of all slots, the newest first
  pub calls : List Entry

-- no call was sent
abbrev pub unused : {World : Type 0} → World → State World
unused w = record { world = w; slots = λ slot. record { lags = false; kept = None; stored = None }; calls = [] }

-- the calls of one slot
abbrev pub of_slot : ℕ → List Entry → List Cached
of_slot slot [] = []
of_slot slot (e ∷ calls) = if e.slot == slot then e.kept ∷ of_slot slot calls else of_slot slot calls

-- the client abandons the newest call of a slot, whose reply it hasn't received: the call is no longer in effect
pub record GivesUp (slot : ℕ) (calls before : List Entry) : Type 0 where
  pub newer : List Entry
  pub lost : Entry
  pub older : List Entry
  pub parts : calls ≡ newer ++ (lost ∷ older)
  pub is_newest : of_slot slot newer ≡ []
  pub is_of_slot : lost.slot ≡ slot
  pub rest : before ≡ newer ++ older

-- A client sends the next sequence ID of a slot, or it sends that of the slot's last call again and loses that call.
-- `before` are the calls in effect before it.
pub record Sends (slot : ℕ) (calls : List Entry) (number : ℕ) (before : List Entry) : Type 0 where
  pub is_due : number ≡ due (length (of_slot slot before))
  pub sent_before : (before ≡ calls) ⊎ GivesUp slot calls before

-- A new call on a slot is run, and cached with its results. The slot is written after it if the call changes the
-- world, and after each call whose sequence ID is a multiple of 2^20.
pub record RunsOn {World : Type 0} (run : Call → World → List ℕ → World → Type 0) (slot : ℕ) (call : Call)
    (old new : State World) : Type 0 where
  pub results : List ℕ
  pub changes : Bool
  pub before : List Entry
  pub sent : Sends slot old.calls call.number before
  pub ran : run call old.world results new.world
  pub stays : changes ≡ false → new.world ≡ old.world
  pub represents : new.calls
      ≡ record {
        slot = slot;
        kept = record { call = call; results = results };
        written = is_written call.number changes;
      } ∷ before
  pub memory : new.slots slot ≡ record {
    lags = false;
    kept = Some (record { call = call; results = results });
    stored =
        if is_written call.number changes then Some (record { call = call; results = results })
        else (old.slots slot).stored;
  }
  pub others : (other : ℕ) → other ≢ slot → new.slots other ≡ old.slots other

-- a call by its turn: it is run only if it is new
abbrev pub TakesBy : {World : Type 0} → (Call → World → List ℕ → World → Type 0) → Turn → ℕ → Call → State World
    → State World → Type 0
TakesBy run turns.New slot call old new = RunsOn run slot call old new
TakesBy run turns.Repeat slot call old new = new ≡ old
TakesBy run (turns.Refused status) slot call old new = new ≡ old

pub data Event : Type 0 where
  Arrives : ℕ → Call → Event
  Restarts : Event

-- a slot after a restart: as it was written, and it lags
abbrev pub begun_again : Memory → Memory
begun_again m = record m { lags = true; kept = m.stored }

abbrev pub Step : {World : Type 0} → (Call → World → List ℕ → World → Type 0) → Event → State World → State World
    → Type 0
Step run (Arrives slot call) old new =
    TakesBy run (turn_of (old.slots slot).lags (old.slots slot).kept call) slot call old new
Step run Restarts old new = new ≡ record old { slots = λ slot. begun_again (old.slots slot) }

abbrev pub Steps : {World : Type 0} → (Call → World → List ℕ → World → Type 0) → List Event → State World → State World
    → Type 0
Steps run [] old new = new ≡ old
Steps {World} run (event ∷ events) old new = (mid : State World) × Step run event old mid × Steps run events mid new

-- calls, the newest first, each with the sequence ID after those before it: none occurs twice
abbrev pub AreNumbered : List Cached → Type 0
AreNumbered [] = Unit {0}
AreNumbered (call ∷ before) = (call.call.number ≡ due (length before)) × AreNumbered before

-- The calls, the newest first, made the last world from the first one, each with its results. A call after which its
-- slot wasn't written left the world unchanged.
abbrev pub Ran : {World : Type 0} → (Call → World → List ℕ → World → Type 0) → World → List Entry → World → Type 0
Ran run first [] last = last ≡ first
Ran {World} run first (e ∷ before) last =
    (mid : World) × Ran run first before mid × run e.kept.call mid e.kept.results last
    × (e.written ≡ false → last ≡ mid)

-- The calls in effect, of all slots, made the world from the first one, each run once and in turn. Of each slot no
-- sequence ID occurs twice. The next sequence ID of a slot is new, however long ago the slot was written.
pub record ActsOnce {World : Type 0} (run : Call → World → List ℕ → World → Type 0) (first : World)
    (last : State World) : Type 0 where
  pub ran : Ran run first last.calls last.world
  pub numbered : (slot : ℕ) → AreNumbered (of_slot slot last.calls)
  pub goes_on : (slot : ℕ) (call : Call) → call.number ≡ due (length (of_slot slot last.calls))
      → turn_of (last.slots slot).lags (last.slots slot).kept call ≡ turns.New
