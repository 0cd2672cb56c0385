-- Lists of values that grow by one.
use Rattle.std.proofs.Common.{◌≡◌, ◌∙◌, ◌<◌, ◌+◌, ℕ, List, [], ◌∷◌, ◌++◌, map, take, length, ap, get_or, Bor}
use Rattle.std.proofs.lemmas.List.{map-append, take_more}
use Rattle.clap.specs.Words.{Text}
use Rattle.nfsd_options.specs.Lists.{WriteEach}

push : {X : Type 0} (writes : Text → X → Type 0) (ts : List Text) (xs : List X) (t : Text) (x : X) → WriteEach writes ts xs → writes t x
    → WriteEach writes (ts ++ t ∷ []) (xs ++ x ∷ [])
push writes [] [] t x all here = (here, tt)
push writes [] (y ∷ ys) t x all here = absurd all
push writes (s ∷ ss) [] t x all here = absurd all
push writes (s ∷ ss) (y ∷ ys) t x all here = (all.0, push writes ss ys t x all.1 here)

-- one text more is read
pub more : {X : Type 0} (writes : Text → X → Type 0) (texts : List (Bor Text)) (i : ℕ) (d : Bor Text) (xs ys : List X) (x : X) → i < length texts
    → ys ≡ xs ++ x ∷ [] → writes (get_or texts i d).now x → WriteEach writes (map (λ t. t.now) (take i texts)) xs
    → WriteEach writes (map (λ t. t.now) (take (i + 1) texts)) ys
more writes texts i d xs ys x lt is here all =
    let grown : map (λ (t : Bor Text). t.now) (take (i + 1) texts) ≡ map (λ t. t.now) (take i texts) ++ (get_or texts i d).now ∷ [] =
    ap (map (λ (t : Bor Text). t.now)) (take_more texts i d lt) ∙ map-append (λ (t : Bor Text). t.now) (take i texts) (get_or texts i d ∷ []) in
    rw (is, grown) (push writes _ xs _ x all here)
