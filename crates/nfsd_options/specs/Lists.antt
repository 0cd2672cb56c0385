-- The values of an option that may be given more than once, by its texts.
use Rattle.std.specs.Prelude.{◌≡◌, ◌⊎◌, ⊤, Any, List, [], ◌∷◌, MatchResult, Ok, Err, Option, Result, Vec, map}
use Rattle.std.specs.Prelude.{option_map, unwrap_or}
use Rattle.std.specs.Borrow.{Bor}
use Rattle.std.specs.declared.alloc.Global.{Global}
use Rattle.clap.specs.Values.{kind_of}
use Rattle.clap.specs.Words.{Text}
use Rattle.clap.specs.declared.error.Error.{Error}
use Rattle.clap.specs.declared.error.kind.ErrorKind.TheVariants.{OutOfMemory, ValueValidation}

-- each text writes the value at its place
abbrev pub WriteEach : {X : Type 0} → (Text → X → Type 0) → List Text → List X → Type 0
WriteEach writes [] [] = ⊤
WriteEach writes [] (x ∷ xs) = ⊥
WriteEach writes (t ∷ ts) [] = ⊥
WriteEach writes (t ∷ ts) (x ∷ xs) = writes t x × WriteEach writes ts xs

-- the texts, where there are any
abbrev pub texts_of : Option (Bor (List (Bor Text))) → List Text
texts_of found = unwrap_or (option_map (λ s. map (λ t. t.now) s.now) found) []

-- memory ran out, or one of the texts has no value
abbrev pub FailsAtText : {X E : Type 0} → (Text → Result X E → Type 0) → List Text → Error → Type 0
FailsAtText {E = E} gives texts e = (kind_of e ≡ OutOfMemory)
    ⊎ ((kind_of e ≡ ValueValidation) × Any (λ t. (why : E) × gives t (Err why)) texts)

-- the values of the texts
abbrev pub ReadsEach : {X E : Type 0} → (Text → Result X E → Type 0) → List Text → Result (Vec X Global) Error → Type 0
ReadsEach gives texts r =
    MatchResult r (λ v. WriteEach (λ t x. gives t (Ok x)) texts v.items) (FailsAtText gives texts)
