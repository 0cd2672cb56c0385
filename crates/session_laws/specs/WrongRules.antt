-- Two wrong rules of storing turns, for which the law is false.
use Rattle.std.specs.Prelude.{◌≡◌, ℕ, ◌+◌, List, [], ◌∷◌}
use Rattle.session_slots.specs.Slots.{Call}
use Rattle.session_slots.specs.Acting.{Entry}
use Rattle.session_laws.specs.Turns.{Rule, stores_turns}

-- The world is stored without the slots.
abbrev pub forgets_slots : (World : Type 0) → Rule World
forgets_slots World = record (stores_turns World) { settled = λ m. m }

-- A turn that changed nothing may be left unstored, however many calls came on a slot.
abbrev pub forgets_calls : (World : Type 0) → Rule World
forgets_calls World = record (stores_turns World) { near = λ stored kept. Unit {0} }

-- a number that each call raises by one
abbrev pub counts : Call → ℕ → List ℕ → ℕ → Type 0
counts call old results new = new ≡ old + 1

-- a world with nothing in it
abbrev pub does_nothing : Call → Unit {0} → List ℕ → Unit {0} → Type 0
does_nothing call old results new = Unit {0}

-- these calls, the newest first, made this world from the first one
abbrev pub IsMadeOf : {World : Type 0} → (Call → World → List ℕ → World → Type 0) → World → List Entry → World → Type 0
IsMadeOf run first [] last = last ≡ first
IsMadeOf {World} run first (e ∷ before) last =
    (mid : World) × IsMadeOf run first before mid × run e.kept.call mid e.kept.results last
