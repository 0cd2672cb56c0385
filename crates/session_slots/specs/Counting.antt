-- Sequence IDs, on a slot and for the sessions of a client. Each accepted call has the sequence ID after that of the
-- call before it, from 1 on, modulo 2^32 (RFC 8881, sections 2.10.6.1 and 18.36.4).
use Rattle.std.specs.Prelude.{◌≡◌, ℕ, ◌+◌, ◌-◌, ◌%◌, ◌^◌, ◌==◌, ◌&&◌, ◌||◌, Bool, true, false, nat_le, if◌then◌else◌}
use Rattle.std.specs.Prelude.{List, [], ◌∷◌, length, Option, Some, None}
use Rattle.session_slots.specs.Limits.{MOST_AHEAD, WRITTEN_EVERY}

-- the sequence ID after another one
abbrev pub due : ℕ → ℕ
due last = (last + 1) % 2 ^ 32

-- how far a sequence ID is ahead of the last one, modulo 2^32
abbrev pub ahead : ℕ → ℕ → ℕ
ahead last number = (number + (2 ^ 32 - last)) % 2 ^ 32

-- A new call has this sequence ID after the last one: the next one, or, if the slot lags, one that is ahead of it.
abbrev pub is_next : Bool → ℕ → ℕ → Bool
is_next false last number = number == due last
is_next true last number = nat_le 1 (ahead last number) && nat_le (ahead last number) MOST_AHEAD

-- A slot is written after a new call that changed stored state, and after one whose sequence ID is a multiple of
-- 2^20.
abbrev pub is_written : ℕ → Bool → Bool
is_written number changes = changes || (number % WRITTEN_EVERY == 0)

-- The accepted ones among these calls, the newest first: each has the next sequence ID after those before it. `keeps`
-- decides whether a call with the next sequence ID was accepted.
abbrev pub accepted : {X : Type 0} → (X → ℕ) → (X → Bool) → List X → List X
accepted number_of keeps [] = []
accepted number_of keeps (call ∷ before) =
    if (number_of call == due (length (accepted number_of keeps before))) && keeps call
    then call ∷ accepted number_of keeps before else accepted number_of keeps before

abbrev pub newest : {X : Type 0} → List X → Option X
newest [] = None
newest (call ∷ before) = Some call

-- the last sequence ID, or 0 if no call was accepted
abbrev pub last_number : {X : Type 0} → (X → ℕ) → Option X → ℕ
last_number number_of None = 0
last_number number_of (Some kept) = number_of kept

-- The last accepted call represents each history whose last accepted call it is. Its sequence ID is the number of
-- accepted calls, modulo 2^32.
pub record RepresentsHistory {X : Type 0} (number_of : X → ℕ) (keeps : X → Bool) (last : Option X)
    (history : List X) : Type 0 where
  pub kept : last ≡ newest (accepted number_of keeps history)
  pub number : last_number number_of last ≡ length (accepted number_of keeps history) % 2 ^ 32
