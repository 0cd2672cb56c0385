use Rattle.std.proofs.Common.{◌≡◌, ◌++◌, ◌∙◌, ap, sym, List, ℕ, Bool, true, false, append_assoc, take, drop, length}
use Rattle.std.specs.Bool.{OnTrue}
use Rattle.std.specs.Str.{bytes_eq}
use Rattle.std.proofs.lemmas.List.{take-append-drop}
use Rattle.std.proofs.lemmas.Slice.Eq.{bytes_eq-Decides}
use Rattle.server_metrics.specs.Text.{seconds}
use Rattle.server_metrics.proofs.reading.is_seconds.Goals as goal

-- what follows a prefix, if a test holds
carried : (test : Bool) (value whole rest part : List ℕ) → value ≡ whole ++ rest → OnTrue test (rest ≡ part)
    → OnTrue test (value ≡ whole ++ part)
carried true value whole rest part e h = e ∙ ap (λ (t : List ℕ). whole ++ t) h
carried false value whole rest part e h = h

prefixed : (value whole rest : List ℕ) → bytes_eq (take (length whole) value) whole ≡ true
    → rest ≡ drop (length whole) value → value ≡ whole ++ rest
prefixed value whole rest same is =
    let first : take (length whole) value ≡ whole = (bytes_eq-Decides _ _).0 same in
    sym (take-append-drop (length whole) value) ∙ ap (λ (t : List ℕ). t ++ drop (length whole) value) first
    ∙ ap (λ (t : List ℕ). whole ++ t) (sym is)

pub returns-in-Some : goal.returns-in-Some
unfolding seconds
returns-in-Some c =
    let h = c.in-Some.ensures.cases in
    let e : c.args.value.now ≡ c.as_bytes.result.now ++ c.in-Some.rest.now = prefixed _ _ _ h.0 h.1 in
    rw append_assoc (rw (← c.format.ensures.text, ← c.as_bytes.ensures.value)
    (carried _ _ _ _ _ e c.is_fraction.ensures))
