-- Two states of clients are compared.
use Rattle.std.proofs.Common.{List, length, get_or, ◌≡◌, ℕ, ◌<◌, sym, ap, ◌∙◌, arith, Some, None}
use Rattle.std.specs.Prelude.{Option, slice_get}
use Rattle.std.specs.Option.{option_map, option_and_then}
use Rattle.session_slots.specs.Registry.{Client, Session, Registry, session_at}
use Rattle.session_slots.specs.Limits.{END}
use Rattle.session_slots.specs.Orderly.{IsIn, IsOrderly}
use Rattle.session_slots.specs.Restoring.{held_of, kept_at}
use Rattle.std.proofs.lemmas.Option.{slice_get-map, slice_get-get_or}
use Rattle.compound_run.specs.declared.opens.Open.{Open}
use Rattle.compound_run.specs.Realm.{Opened}
use Rattle.compound_run.specs.Views.{open_view, opens_view}
use Rattle.client_parts.specs.Comparing.{IsSessionSame}

-- ---- no session

-- if neither has a session of a number, it is equal in both
pub none_same : (r q : Registry) (n : ℕ) → session_at r n ≡ None → session_at q n ≡ None → IsSessionSame r q n
none_same r q n here there = record {
  held = ap (option_map held_of) (here ∙ sym there);
  slots = λ slot. no_call r here slot ∙ sym (no_call q there slot);
}
  where
    no_call : (r : Registry) → session_at r n ≡ None → (slot : ℕ) → kept_at r n slot ≡ None
    no_call r none slot = ap (λ (s : Option Session). option_and_then (λ p. p.kept) (option_and_then (λ s. slice_get s.slots slot) s)) none

-- ---- numbers have an end

pub clients_below : (r : Registry) → IsOrderly r → (e : ℕ × Client) → IsIn e r.clients → e.0 < END
clients_below r o e m = let a = (o.numbered e m).1 in let b = o.clients_end in omega (arith, a, b)

pub sessions_below : (r : Registry) → IsOrderly r → (e : ℕ × Session) → IsIn e r.sessions → e.0 < END
sessions_below r o e m = let a = o.given e m in let b = o.sessions_end in omega (arith, a, b)

-- ---- open files

same_some : {X : Type 0} (x y : X) → Some x ≡ Some y → x ≡ y
same_some x y e = cc

-- the open files at one place of equal lists
pub same_at : {A : Type 0} (xs ys : List (Open A)) (i : ℕ) (d e : Open A) → opens_view xs ≡ opens_view ys → i < length xs → i < length ys → d ≡ get_or xs i d → e ≡ get_or ys i e → open_view d ≡ open_view e
same_at {A} xs ys i d e same here there is is' =
    ap open_view is ∙ same_some (open_view (get_or xs i d)) (open_view (get_or ys i e))
    (ap (option_map open_view) (sym (slice_get-get_or xs i d here)) ∙ sym (slice_get-map open_view xs i) ∙ ap (λ (l : List Opened). slice_get l i) same ∙ slice_get-map open_view ys i ∙ ap (option_map open_view) (slice_get-get_or ys i e there))
    ∙ ap open_view (sym is')
