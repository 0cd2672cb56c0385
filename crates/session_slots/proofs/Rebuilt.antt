-- What is read out of a registry and restored makes the registry, in which every slot lags.
use Rattle.std.proofs.Common.{◌≡◌, ◌≢◌, ◌⊎◌, inl, inr, ℕ, ◌+◌, ◌<◌, ◌≤◌, ◌&&◌, Bool, true, false, not, nat_lt, nat_le, cond, List, [], ◌∷◌, ◌++◌, map, find, length, slice_get, set, replicate, suc, Option, Some, None, is_some, is_none, All, refl, sym, ap, ◌∙◌, subst, arith}
use Rattle.std.specs.Option.{option_map, option_map_or, option_and_then, IfSome}
use Rattle.std.specs.Map.{lookup, set_value, keys_of, values_of}
use Rattle.std.specs.BTreeMap.{is_at, insert_entry}
use Rattle.std.specs.Ordering.{nat_cmp, match_ordering}
use Rattle.std.specs.declared.cmp.Ordering.{Ordering}
use Rattle.std.specs.declared.cmp.Ordering.TheVariants.{Less, Equal, Greater}
use Rattle.std.specs.Cmp.{Equal-is, nat_cmp_is}
use Rattle.std.specs.List.{AllByRecursion}
use Rattle.std.proofs.lemmas.List.{append_assoc, append-nil}
use Rattle.std.proofs.lemmas.List.Elements.{All-get_or, All-tail}
use Rattle.std.proofs.lemmas.Map.Keys.{sorted_head, sorted_tail}
use Rattle.std.proofs.lemmas.Cmp.{nat_list_eq_equiv}
use Rattle.session_slots.specs.declared.session.Channel.{Channel}
use Rattle.session_slots.specs.Limits.{MOST_SLOTS, MOST_BYTES, LEAST_REPLY, MOST_OPERATIONS}
use Rattle.session_slots.specs.Slots.{Cached, Place, restored}
use Rattle.session_slots.specs.Registry.{Client, Session, Registry, client_at, session_at, is_confirmed_of, changed_place, changed_session, with_place, cache_size, restored_session}
use Rattle.session_slots.specs.Orderly.{has_form, IsIn, IsWithin}
use Rattle.session_slots.specs.Restoring.{IsRising, number_from, record_fits, with_record, is_within, is_home, session_fits, with_restored, slot_fits, kept_at, held_of}
use Rattle.session_slots.specs.Restored.{IsReadable, IsReadInOrder, IsRestored, RecordsFit, SlotsFit, SessionsFit, with_records, with_call, with_slots, with_sessions, lagging, lagging_session, lagging_entry}
use Rattle.session_slots.proofs.Found.{found_passes}
use Rattle.session_slots.proofs.Members.{is_another, found_entry}

-- ---- lists in order

abbrev key : {X : Type 0} → ℕ × X → ℕ
key e = e.0

abbrev prepended : {X : Type 0} → X → List X → List X
prepended x xs = x ∷ xs

below_of : (m n : ℕ) → nat_cmp m n ≡ Less → m < n
below_of m n h = grind (arith, h)

at_one : {X : Type 0} (P : ℕ → Type 0) (before after : List (ℕ × X)) (x : ℕ × X) → AllByRecursion P (keys_of (before ++ x ∷ after)) → P x.0
at_one P [] after x h = h.0
at_one P (y ∷ before) after x h = at_one P before after x h.1

-- an entry is greater than all before it
pub above_before : {X : Type 0} (before after : List (ℕ × X)) (x : ℕ × X) → IsRising (before ++ x ∷ after) → (e : ℕ × X) → IsIn e before → e.0 < x.0
above_before [] after x h e m = absurd m
above_before (y ∷ before) after x h e m =
    elim m [
      | inl q ↦ subst (λ (k : ℕ). k < x.0) (sym (ap key q)) (below_of y.0 x.0 (at_one (λ k. nat_cmp y.0 k ≡ Less) before after x (sorted_head nat_cmp y.0 (keys_of (before ++ x ∷ after)) h)))
      | inr r ↦ above_before before after x (sorted_tail nat_cmp y.0 (keys_of (before ++ x ∷ after)) h) e r
    ]

-- ---- reading in order

not_from : (m n : ℕ) → m < n → nat_le n m ≡ false
not_from m n h = grind (arith, h)

from : (m n : ℕ) → n ≤ m → nat_le n m ≡ true
from m n h = grind (arith, h)

-- the first of these entries is found from a number that is at most its own
from_first : {X : Type 0} (n : ℕ) (es : List (ℕ × X)) → ((e : ℕ × X) → slice_get es 0 ≡ Some e → n ≤ e.0) → number_from n es ≡ option_map (λ e. e.0) (slice_get es 0)
from_first n [] h = refl
from_first n (e ∷ es) h = ap (λ b. cond b (Some e.0) (number_from n es)) (from e.0 n (h e refl))

-- entries below a number are skipped
from_after : {X : Type 0} (n : ℕ) (before after : List (ℕ × X)) → ((e : ℕ × X) → IsIn e before → e.0 < n) → number_from n (before ++ after) ≡ number_from n after
from_after n [] after below = refl
from_after n (e ∷ before) after below =
    ap (λ b. cond b (Some e.0) (number_from n (before ++ after))) (not_from e.0 n (below e (inl refl))) ∙ from_after n before after (λ f m. below f (inr m))

in_end : {X : Type 0} (xs : List X) (x e : X) → IsIn e (xs ++ (x ∷ [])) → IsIn e xs ⊎ (e ≡ x)
in_end [] x e h = elim h [ inl q ↦ inr q | inr m ↦ absurd m ]
in_end (y ∷ xs) x e h = elim h [ inl q ↦ inl (inl q) | inr m ↦ elim (in_end xs x e m) [ inl a ↦ inl (inr a) | inr b ↦ inr b ] ]

at_end : {X : Type 0} (xs : List X) (x : X) → IsIn x (xs ++ (x ∷ []))
at_end [] x = inl refl
at_end (y ∷ xs) x = inr (at_end xs x)

in_middle : {X : Type 0} (xs : List X) (x : X) (ys : List X) → IsIn x (xs ++ (x ∷ ys))
in_middle [] x ys = inl refl
in_middle (y ∷ xs) x ys = inr (in_middle xs x ys)

in_prefix : {X : Type 0} (xs ys : List X) (x : X) → IsIn x xs → IsIn x (xs ++ ys)
in_prefix [] ys x h = absurd h
in_prefix (z ∷ xs) ys x h = elim h [ inl q ↦ inl q | inr m ↦ inr (in_prefix xs ys x m) ]

below_more : (m n : ℕ) → m < n → m < n + 1
below_more m n h = omega (arith, h)

one_more_than : (m n : ℕ) → m ≡ n → m < n + 1
one_more_than m n h = omega (arith, h)

at_least_one_more : (m n : ℕ) → m < n → m + 1 ≤ n
at_least_one_more m n h = omega (arith, h)

same_some : {X : Type 0} (x y : X) → Some x ≡ Some y → x ≡ y
same_some x y h = cc

-- the first entry after another one has a greater number
first_above : {X : Type 0} (before after : List (ℕ × X)) (number : ℕ) (x : X) → IsRising ((before ++ ((number, x) ∷ [])) ++ after) → (e : ℕ × X) → slice_get after 0 ≡ Some e → number + 1 ≤ e.0
first_above before [] number x h e is = cc
first_above before (f ∷ rest) number x h e is =
    subst (λ (k : ℕ). number + 1 ≤ k) (ap key (same_some f e is))
    (at_least_one_more number f.0 (above_before (before ++ ((number, x) ∷ [])) rest f h (number, x) (at_end before (number, x))))

next_of : {X : Type 0} (es before after : List (ℕ × X)) (number : ℕ) (x : X) → IsRising es → es ≡ before ++ ((number, x) ∷ after) → number_from (number + 1) es ≡ option_map (λ e. e.0) (slice_get after 0)
next_of es before after number x h is =
    let again : es ≡ (before ++ ((number, x) ∷ [])) ++ after = is ∙ sym (append_assoc before ((number, x) ∷ []) after) in
    let rising : IsRising ((before ++ ((number, x) ∷ [])) ++ after) = subst IsRising again h in
    ap (number_from (number + 1)) again
    ∙ from_after (number + 1) (before ++ ((number, x) ∷ [])) after (λ e m. elim (in_end before (number, x) e m) [
      | inl a ↦ below_more e.0 number (above_before before after (number, x) (subst IsRising is h) e a)
      | inr b ↦ one_more_than e.0 number (ap key b)
    ])
    ∙ from_first (number + 1) after (first_above before after number x rising)

none_below : (n : ℕ) → 0 ≤ n
none_below n = omega arith

pub read_in_order : {X : Type 0} (es : List (ℕ × X)) → IsRising es → IsReadInOrder es
read_in_order es h = record {
  first = from_first 0 es (λ e is. none_below e.0);
  next = λ before after number x is. next_of es before after number x h is;
}

-- ---- an entry greater than all others

apart : (m n : ℕ) → m < n → n ≢ m
apart m n h = grind (arith, h)

pub inserted_last : {X : Type 0} (es : List (ℕ × X)) (n : ℕ) (v : X) → ((e : ℕ × X) → IsIn e es → e.0 < n) → insert_entry nat_cmp es n v ≡ es ++ ((n, v) ∷ [])
inserted_last [] n v below = refl
inserted_last (x ∷ es) n v below =
    let above : nat_cmp n x.0 ≡ Greater = sym (nat_cmp_is n x.0 Greater (below x (inl refl))) in
    ap (λ (r : Ordering). match_ordering r ((n, v) ∷ x ∷ es) ((x.0, v) ∷ es) (x ∷ insert_entry nat_cmp es n v)) above
    ∙ ap (prepended x) (inserted_last es n v (λ e h. below e (inr h)))

pub absent : {X : Type 0} (es : List (ℕ × X)) (n : ℕ) → ((e : ℕ × X) → IsIn e es → e.0 < n) → lookup (is_at (nat_cmp n)) es ≡ None
absent [] n below = refl
absent (x ∷ es) n below =
    ap (λ b. cond b (Some x.1) (lookup (is_at (nat_cmp n)) es)) (is_another (is_at (nat_cmp n) x.0) n x.0 refl (apart x.0 n (below x (inl refl))))
    ∙ absent es n (λ e h. below e (inr h))

-- ---- tests

and_true : (a b : Bool) → a ≡ true → b ≡ true → (a && b) ≡ true
and_true true b h k = k
and_true false b h k = cc

is_less : (m n : ℕ) → m < n → nat_lt m n ≡ true
is_less m n h = grind (arith, h)

is_none_of : {X : Type 0} (o : Option X) → o ≡ None → is_none o ≡ true
is_none_of None h = refl
is_none_of (Some x) h = cc

pub shorter : {X : Type 0} (xs ys : List X) (y : X) (most : ℕ) → length (xs ++ (y ∷ ys)) ≤ most → length xs < most
shorter [] ys y most h = omega (arith, h)
shorter (x ∷ xs) ys y most h = more (length xs) (length (xs ++ (y ∷ ys))) most (shorter xs ys y (length (xs ++ (y ∷ ys))) (itself (length (xs ++ (y ∷ ys))))) h
  where
    itself : (n : ℕ) → n ≤ n
    itself n = omega arith

    more : (m n k : ℕ) → m < n → suc n ≤ k → suc m < k
    more m n k a b = omega (arith, a, b)

not_both : (b : Bool) (o : Option Client) → (b ≡ true → o ≡ None) → not (b && is_some o) ≡ true
not_both true None h = refl
not_both true (Some x) h = let none : Some x ≡ None = h refl in cc
not_both false o h = refl

-- ---- records

-- the registry with these records, and without sessions
abbrev with_clients : Registry → List (ℕ × Client) → Registry
with_clients r clients = record r { clients = clients; sessions = [] }

no_other : (r : Registry) (before after : List (ℕ × Client)) (e : ℕ × Client) → IsReadable r → r.clients ≡ before ++ (e ∷ after) → (found : Option Client) → find (is_confirmed_of e.1.owner) (values_of before) ≡ found → e.1.confirmed ≡ true → found ≡ None
no_other r before after e p is None f confirmed = refl
no_other r before after e p is (Some w) f confirmed =
    let entry = found_entry (is_confirmed_of e.1.owner) before w f in
    let whose : is_confirmed_of e.1.owner w ≡ true = found_passes (is_confirmed_of e.1.owner) (values_of before) w f in
    let mine : is_confirmed_of e.1.owner e.1 ≡ true = and_true e.1.confirmed _ confirmed (nat_list_eq_equiv.refl e.1.owner) in
    let there : IsIn (entry.0, w) r.clients = subst (λ (l : List (ℕ × Client)). IsIn (entry.0, w) l) (sym is) (in_prefix before (e ∷ after) (entry.0, w) entry.1) in
    let here : IsIn e r.clients = subst (λ (l : List (ℕ × Client)). IsIn e l) (sym is) (in_middle before e after) in
    let same : entry.0 ≡ e.0 = p.orderly.one_confirmed e.1.owner (entry.0, w) e there here whose mine in
    absurd (apart entry.0 e.0 (above_before before after e (subst IsRising is p.clients) (entry.0, w) entry.1) (sym same))

record_is_fit : (r : Registry) (before after : List (ℕ × Client)) (e : ℕ × Client) → IsReadable r → r.clients ≡ before ++ (e ∷ after) → record_fits (with_clients r before) e.1 ≡ true
record_is_fit r before after e p is =
    let here : IsIn e r.clients = subst (λ (l : List (ℕ × Client)). IsIn e l) (sym is) (in_middle before e after) in
    let numbered = p.orderly.numbered e here in
    let below : (f : ℕ × Client) → IsIn f before → f.0 < e.0 = above_before before after e (subst IsRising is p.clients) in
    let given : e.1.number < r.next_client = subst (λ (n : ℕ). n < r.next_client) (sym numbered.0) numbered.1 in
    let few : length before < r.limits.clients = shorter before after e r.limits.clients (subst (λ (l : List (ℕ × Client)). length l ≤ r.limits.clients) is p.orderly.few_clients) in
    let free : lookup (is_at (nat_cmp e.1.number)) before ≡ None = ap (λ (n : ℕ). lookup (is_at (nat_cmp n)) before) numbered.0 ∙ absent before e.0 below in
    let alone : not (e.1.confirmed && is_some (find (is_confirmed_of e.1.owner) (values_of before))) ≡ true =
    not_both e.1.confirmed (find (is_confirmed_of e.1.owner) (values_of before)) (no_other r before after e p is (find (is_confirmed_of e.1.owner) (values_of before)) refl) in
    and_true (nat_lt e.1.number r.next_client) _ (is_less e.1.number r.next_client given)
    (and_true (nat_lt (length before) r.limits.clients) _ (is_less (length before) r.limits.clients few)
    (and_true (is_none (lookup (is_at (nat_cmp e.1.number)) before)) _ (is_none_of (lookup (is_at (nat_cmp e.1.number)) before) free)
    (and_true (not (e.1.confirmed && is_some (find (is_confirmed_of e.1.owner) (values_of before)))) (has_form e.1) alone (p.orderly.formed e here))))

record_is_added : (r : Registry) (before after : List (ℕ × Client)) (e : ℕ × Client) → IsReadable r → r.clients ≡ before ++ (e ∷ after) → with_record (with_clients r before) e.1 ≡ with_clients r (before ++ (e ∷ []))
record_is_added r before after e p is =
    let here : IsIn e r.clients = subst (λ (l : List (ℕ × Client)). IsIn e l) (sym is) (in_middle before e after) in
    let numbered = p.orderly.numbered e here in
    ap (with_clients r)
    (ap (λ (n : ℕ). insert_entry nat_cmp before n e.1) numbered.0
    ∙ inserted_last before e.0 e.1 (above_before before after e (subst IsRising is p.clients)))

record AllRecords (r : Registry) (before after : List (ℕ × Client)) : Type 0 where
  fit : RecordsFit after (with_clients r before)
  whole : with_records after (with_clients r before) ≡ with_clients r (before ++ after)

records_go : (r : Registry) (before after : List (ℕ × Client)) → IsReadable r → r.clients ≡ before ++ after → AllRecords r before after
records_go r before [] p is = record { fit = tt; whole = ap (with_clients r) (sym (append-nil before)) }
records_go r before (e ∷ after) p is =
    let again : before ++ (e ∷ after) ≡ (before ++ (e ∷ [])) ++ after = sym (append_assoc before (e ∷ []) after) in
    let added : with_record (with_clients r before) e.1 ≡ with_clients r (before ++ (e ∷ [])) = record_is_added r before after e p is in
    let rest = records_go r (before ++ (e ∷ [])) after p (is ∙ again) in
    record {
      fit = (record_is_fit r before after e p is, subst (λ (q : Registry). RecordsFit after q) (sym added) rest.fit);
      whole = ap (λ (q : Registry). with_records after q) added ∙ rest.whole ∙ ap (with_clients r) (sym again);
    }

-- ---- the last of the sessions is changed

at_itself : (n : ℕ) → is_at (nat_cmp n) n ≡ true
at_itself n = (Equal-is (nat_cmp n n)).1 (sym (nat_cmp_is n n Equal refl))

not_at : {X : Type 0} (e : ℕ × X) (n : ℕ) → e.0 < n → is_at (nat_cmp n) e.0 ≡ false
not_at e n below = is_another (is_at (nat_cmp n) e.0) n e.0 refl (apart e.0 n below)

last_found : {X : Type 0} (es : List (ℕ × X)) (n : ℕ) (x : X) → ((e : ℕ × X) → IsIn e es → e.0 < n) → lookup (is_at (nat_cmp n)) (es ++ ((n, x) ∷ [])) ≡ Some x
last_found [] n x below = ap (λ b. cond b (Some x) None) (at_itself n)
last_found (e ∷ es) n x below =
    ap (λ b. cond b (Some e.1) (lookup (is_at (nat_cmp n)) (es ++ ((n, x) ∷ [])))) (not_at e n (below e (inl refl)))
    ∙ last_found es n x (λ f h. below f (inr h))

last_set : {X : Type 0} (es : List (ℕ × X)) (n : ℕ) (x y : X) → ((e : ℕ × X) → IsIn e es → e.0 < n) → set_value (is_at (nat_cmp n)) (es ++ ((n, x) ∷ [])) y ≡ es ++ ((n, y) ∷ [])
last_set [] n x y below = ap (λ b. cond b ((n, y) ∷ []) ((n, x) ∷ [])) (at_itself n)
last_set (e ∷ es) n x y below =
    ap (λ b. cond b ((e.0, y) ∷ (es ++ ((n, x) ∷ []))) (e ∷ set_value (is_at (nat_cmp n)) (es ++ ((n, x) ∷ [])) y)) (not_at e n (below e (inl refl)))
    ∙ ap (prepended e) (last_set es n x y (λ f h. below f (inr h)))

last_changed : (es : List (ℕ × Session)) (n : ℕ) (s : Session) (f : Session → Session) → ((e : ℕ × Session) → IsIn e es → e.0 < n) → changed_session n f (es ++ ((n, s) ∷ [])) ≡ es ++ ((n, f s) ∷ [])
last_changed es n s f below =
    ap (λ (o : Option Session). option_map_or (λ t. set_value (is_at (nat_cmp n)) (es ++ ((n, s) ∷ [])) (f t)) o (es ++ ((n, s) ∷ []))) (last_found es n s below)
    ∙ last_set es n s (f s) below

-- ---- a place is changed

place_found : (xs : List Place) (p : Place) (ys : List Place) → slice_get (xs ++ (p ∷ ys)) (length xs) ≡ Some p
place_found [] p ys = refl
place_found (x ∷ xs) p ys = place_found xs p ys

place_set : (xs : List Place) (p q : Place) (ys : List Place) → set (xs ++ (p ∷ ys)) (length xs) q ≡ xs ++ (q ∷ ys)
place_set [] p q ys = refl
place_set (x ∷ xs) p q ys = ap (prepended x) (place_set xs p q ys)

place_changed : (xs : List Place) (p : Place) (ys : List Place) (f : Place → Place) → changed_place (length xs) f (xs ++ (p ∷ ys)) ≡ xs ++ (f p ∷ ys)
place_changed xs p ys f =
    ap (λ (o : Option Place). option_map_or (λ q. set (xs ++ (p ∷ ys)) (length xs) (f q)) o (xs ++ (p ∷ ys))) (place_found xs p ys)
    ∙ place_set xs p (f p) ys

length_lagging : (xs : List Place) → length (map lagging xs) ≡ length xs
length_lagging [] = refl
length_lagging (x ∷ xs) = ap suc (length_lagging xs)

one_more_lags : (xs : List Place) (p : Place) (ys : List Place) → map lagging (xs ++ (p ∷ [])) ++ ys ≡ map lagging xs ++ (lagging p ∷ ys)
one_more_lags [] p ys = refl
one_more_lags (x ∷ xs) p ys = ap (prepended (lagging x)) (one_more_lags xs p ys)

one_longer : (xs : List Place) (p : Place) → length (xs ++ (p ∷ [])) ≡ length xs + 1
one_longer [] p = refl
one_longer (x ∷ xs) p = next (length (xs ++ (p ∷ []))) (length xs) (one_longer xs p)
  where
    next : (m n : ℕ) → m ≡ n + 1 → suc m ≡ suc n + 1
    next m n h = omega (arith, h)

-- ---- the slots of a session

abbrev with_entries : Registry → List (ℕ × Session) → Registry
with_entries r sessions = record r { sessions = sessions }

-- a slot before its call is restored
abbrev unused : Session → Place
unused s = record { kept = None; most_arguments = s.granted.request_size; most_results = cache_size s.granted; lags = true }

-- the session whose first slots were restored, with this count left
abbrev in_part : Session → List Place → ℕ → Session
in_part s before left = record s { slots = map lagging before ++ replicate left (unused s) }

-- the facts of a session that was read out
record Reads (s : Session) : Type 0 where
  arguments : (p : Place) → IsIn p s.slots → p.most_arguments ≡ s.granted.request_size
  results : (p : Place) → IsIn p s.slots → p.most_results ≡ cache_size s.granted
  fit : (slot : ℕ) (p : Place) (k : Cached) → slice_get s.slots slot ≡ Some p → p.kept ≡ Some k → slot_fits (Some s) slot k ≡ true

lags_again : (s : Session) (p : Place) (o : Option Cached) → p.kept ≡ o → p.most_arguments ≡ s.granted.request_size → p.most_results ≡ cache_size s.granted →
    record { kept = o; most_arguments = s.granted.request_size; most_results = cache_size s.granted; lags = true } ≡ lagging p
lags_again s p o k a b = λ i. record { kept = (sym k) i; most_arguments = (sym a) i; most_results = (sym b) i; lags = true }

call_added : (r : Registry) (l : List (ℕ × Session)) (n : ℕ) (s : Session) (before after : List Place) (p : Place) (slot : ℕ) (o : Option Cached) → ((e : ℕ × Session) → IsIn e l → e.0 < n) → slot ≡ length before →
    s.slots ≡ before ++ (p ∷ after) → Reads s → p.kept ≡ o →
    with_call n slot o (with_entries r (l ++ ((n, in_part s before (length (p ∷ after))) ∷ []))) ≡ with_entries r (l ++ ((n, in_part s (before ++ (p ∷ [])) (length after)) ∷ []))
call_added r l n s before after p slot None below at is reads k =
    let here : IsIn p s.slots = subst (λ (ps : List Place). IsIn p ps) (sym is) (in_middle before p after) in
    ap (λ (ps : List Place). with_entries r (l ++ ((n, record s { slots = ps }) ∷ [])))
    (ap (λ (q : Place). map lagging before ++ (q ∷ replicate (length after) (unused s))) (lags_again s p None k (reads.arguments p here) (reads.results p here))
    ∙ sym (one_more_lags before p (replicate (length after) (unused s))))
call_added r l n s before after p slot (Some c) below at is reads k =
    let here : IsIn p s.slots = subst (λ (ps : List Place). IsIn p ps) (sym is) (in_middle before p after) in
    let left : List Place = replicate (length after) (unused s) in
    let place : slot ≡ length (map lagging before) = at ∙ sym (length_lagging before) in
    ap (with_entries r) (last_changed l n (in_part s before (length (p ∷ after))) (with_place slot (restored c)) below)
    ∙ ap (λ (ps : List Place). with_entries r (l ++ ((n, record s { slots = ps }) ∷ [])))
    (ap (λ (i : ℕ). changed_place i (restored c) (map lagging before ++ (unused s ∷ left))) place
    ∙ place_changed (map lagging before) (unused s) left (restored c)
    ∙ ap (λ (q : Place). map lagging before ++ (q ∷ left)) (lags_again s p (Some c) k (reads.arguments p here) (reads.results p here))
    ∙ sym (one_more_lags before p left))

fits_if : (r : Registry) (l : List (ℕ × Session)) (n : ℕ) (s t : Session) (p : Place) (slot : ℕ) (o : Option Cached) → ((e : ℕ × Session) → IsIn e l → e.0 < n) → t.granted ≡ s.granted → slice_get s.slots slot ≡ Some p → Reads s → p.kept ≡ o →
    IfSome o (λ k. slot_fits (session_at (with_entries r (l ++ ((n, t) ∷ []))) n) slot k ≡ true)
fits_if r l n s t p slot None below same there reads is = tt
fits_if r l n s t p slot (Some k) below same there reads is =
    ap (λ (o : Option Session). slot_fits o slot k) (last_found l n t below)
    ∙ ap (λ (g : Channel). slot_fits (Some (record t { granted = g })) slot k) same
    ∙ reads.fit slot p k there is

record AllSlots (r : Registry) (l : List (ℕ × Session)) (n : ℕ) (s : Session) (before after : List Place) (slot : ℕ) : Type 0 where
  fit : SlotsFit n slot after (with_entries r (l ++ ((n, in_part s before (length after)) ∷ [])))
  whole : with_slots n slot after (with_entries r (l ++ ((n, in_part s before (length after)) ∷ []))) ≡ with_entries r (l ++ ((n, lagging_session s) ∷ []))

slots_go : (r : Registry) (l : List (ℕ × Session)) (n : ℕ) (s : Session) (before after : List Place) (slot : ℕ) → ((e : ℕ × Session) → IsIn e l → e.0 < n) → slot ≡ length before →
    s.slots ≡ before ++ after → Reads s → AllSlots r l n s before after slot
slots_go r l n s before [] slot below at is reads = record {
  fit = tt;
  whole = ap (λ (ps : List Place). with_entries r (l ++ ((n, record s { slots = ps }) ∷ []))) (append-nil (map lagging before) ∙ ap (map lagging) (sym (append-nil before) ∙ sym is));
}
slots_go r l n s before (p ∷ after) slot below at is reads =
    let added = call_added r l n s before after p slot p.kept below at is reads refl in
    let rest = slots_go r l n s (before ++ (p ∷ [])) after (slot + 1) below (ap (λ (i : ℕ). i + 1) at ∙ sym (one_longer before p)) (is ∙ sym (append_assoc before (p ∷ []) after)) reads in
    let there : slice_get s.slots slot ≡ Some p = ap (λ (i : ℕ). slice_get s.slots i) at ∙ ap (λ (ps : List Place). slice_get ps (length before)) is ∙ place_found before p after in
    record {
      fit = (fits_if r l n s (in_part s before (length (p ∷ after))) p slot p.kept below refl there reads refl, subst (λ (q : Registry). SlotsFit n (slot + 1) after q) (sym added) rest.fit);
      whole = ap (λ (q : Registry). with_slots n (slot + 1) after q) added ∙ rest.whole;
    }

-- ---- sessions

in_lagging : (xs : List (ℕ × Session)) (f : ℕ × Session) → IsIn f (map lagging_entry xs) → (x : ℕ × Session) × IsIn x xs × (f.0 ≡ x.0)
in_lagging [] f h = absurd h
in_lagging (x ∷ xs) f h = elim h [ inl q ↦ (x, inl refl, ap key q) | inr m ↦ let y = in_lagging xs f m in (y.0, inr y.1, y.2) ]

entries_lagging : (xs : List (ℕ × Session)) → length (map lagging_entry xs) ≡ length xs
entries_lagging [] = refl
entries_lagging (x ∷ xs) = ap suc (entries_lagging xs)

one_more_session : (xs : List (ℕ × Session)) (e : ℕ × Session) → map lagging_entry (xs ++ (e ∷ [])) ≡ map lagging_entry xs ++ (lagging_entry e ∷ [])
one_more_session [] e = refl
one_more_session (x ∷ xs) e = ap (prepended (lagging_entry x)) (one_more_session xs e)

at_most_true : (m n : ℕ) → m ≤ n → nat_le m n ≡ true
at_most_true m n h = grind (arith, h)

within_true : (g : Channel) → IsWithin g → 1 ≤ g.slots → is_within g ≡ true
within_true g w some =
    and_true (nat_le g.request_size MOST_BYTES) _ (at_most_true g.request_size MOST_BYTES w.requests)
    (and_true (nat_le LEAST_REPLY g.reply_size) _ (at_most_true LEAST_REPLY g.reply_size w.least)
    (and_true (nat_le g.reply_size MOST_BYTES) _ (at_most_true g.reply_size MOST_BYTES w.replies)
    (and_true (nat_le g.operations MOST_OPERATIONS) _ (at_most_true g.operations MOST_OPERATIONS w.operations)
    (and_true (nat_le g.slots MOST_SLOTS) _ (at_most_true g.slots MOST_SLOTS w.slots) (at_most_true 1 g.slots some)))))

-- an entry of a list in order is found by its number
entry_found : (es before after : List (ℕ × Session)) (e : ℕ × Session) → ((f : ℕ × Session) → IsIn f before → f.0 < e.0) → es ≡ before ++ (e ∷ after) → lookup (is_at (nat_cmp e.0)) es ≡ Some e.1
entry_found es before after e below is = ap (λ (l : List (ℕ × Session)). lookup (is_at (nat_cmp e.0)) l) is ∙ found_in before after e below
  where
    found_in : (before after : List (ℕ × Session)) (e : ℕ × Session) → ((f : ℕ × Session) → IsIn f before → f.0 < e.0) → lookup (is_at (nat_cmp e.0)) (before ++ (e ∷ after)) ≡ Some e.1
    found_in [] after e below = ap (λ b. cond b (Some e.1) (lookup (is_at (nat_cmp e.0)) after)) (at_itself e.0)
    found_in (x ∷ before) after e below =
        ap (λ b. cond b (Some x.1) (lookup (is_at (nat_cmp e.0)) (before ++ (e ∷ after)))) (not_at x e.0 (below x (inl refl)))
        ∙ found_in before after e (λ f h. below f (inr h))

some_length : (n : ℕ) → 0 < suc n
some_length n = omega arith

all_of : (P : Place → Type 0) (ps : List Place) → All P ps → (p : Place) → IsIn p ps → P p
all_of P [] h p m = absurd m
all_of P (q ∷ ps) h p m = elim m [ inl e ↦ subst P (sym e) (All-get_or P (q ∷ ps) 0 q (some_length (length ps)) h) | inr n ↦ all_of P ps (All-tail P q ps h) p n ]

kept_there : (r : Registry) (number slot : ℕ) (s : Session) (p : Place) (k : Cached) → session_at r number ≡ Some s → slice_get s.slots slot ≡ Some p → p.kept ≡ Some k → kept_at r number slot ≡ Some k
kept_there r number slot s p k is there kept =
    ap (λ (o : Option Session). option_and_then (λ p. p.kept) (option_and_then (λ s. slice_get s.slots slot) o)) is ∙ ap (λ (o : Option Place). option_and_then (λ p. p.kept) o) there ∙ kept

session_reads : (r : Registry) (e : ℕ × Session) → IsReadable r → session_at r e.0 ≡ Some e.1 → Reads e.1
session_reads r e p is =
    let has = p.slots e.0 e.1 is in record {
      arguments = all_of (λ p. p.most_arguments ≡ e.1.granted.request_size) e.1.slots has.arguments;
      results = all_of (λ p. p.most_results ≡ cache_size e.1.granted) e.1.slots has.results;
      fit = λ slot q k there kept. sym (ap (λ (o : Option Session). slot_fits o slot k) is) ∙ p.fit e.0 slot k (kept_there r e.0 slot e.1 q k is there kept);
    }

home_true : (o : Option Client) (c : Client) → o ≡ Some c → c.confirmed ≡ true → is_home o ≡ true
home_true o c is confirmed = ap is_home is ∙ confirmed

session_is_fit : (r : Registry) (before after : List (ℕ × Session)) (e : ℕ × Session) → IsReadable r → r.sessions ≡ before ++ (e ∷ after) → session_fits (with_entries r (map lagging_entry before)) e.0 (held_of e.1) ≡ true
session_is_fit r before after e p is =
    let here : IsIn e r.sessions = subst (λ (l : List (ℕ × Session)). IsIn e l) (sym is) (in_middle before e after) in
    let under : (f : ℕ × Session) → IsIn f before → f.0 < e.0 = above_before before after e (subst IsRising is p.sessions) in
    let below : (f : ℕ × Session) → IsIn f (map lagging_entry before) → f.0 < e.0 = λ f h. let x = in_lagging before f h in subst (λ (k : ℕ). k < e.0) (sym x.2) (under x.0 x.1) in
    let few : length (map lagging_entry before) < r.limits.sessions =
    subst (λ (n : ℕ). n < r.limits.sessions) (sym (entries_lagging before)) (shorter before after e r.limits.sessions (subst (λ (l : List (ℕ × Session)). length l ≤ r.limits.sessions) is p.orderly.few_sessions)) in
    let home = p.orderly.at_home e here in
    let has = p.slots e.0 e.1 (entry_found r.sessions before after e under is) in
    and_true (nat_lt e.0 r.next_session) _ (is_less e.0 r.next_session (p.orderly.given e here))
    (and_true (nat_lt (length (map lagging_entry before)) r.limits.sessions) _ (is_less (length (map lagging_entry before)) r.limits.sessions few)
    (and_true (is_none (lookup (is_at (nat_cmp e.0)) (map lagging_entry before))) _ (is_none_of (lookup (is_at (nat_cmp e.0)) (map lagging_entry before)) (absent (map lagging_entry before) e.0 below))
    (and_true (is_home (client_at r e.1.client)) (is_within e.1.granted) (home_true (client_at r e.1.client) home.0 home.1 home.2) (within_true e.1.granted (p.orderly.within e here) has.some))))

record AllSessions (r : Registry) (before after : List (ℕ × Session)) : Type 0 where
  fit : SessionsFit after (with_entries r (map lagging_entry before))
  whole : with_sessions after (with_entries r (map lagging_entry before)) ≡ with_entries r (map lagging_entry (before ++ after))

sessions_go : (r : Registry) (before after : List (ℕ × Session)) → IsReadable r → r.sessions ≡ before ++ after → AllSessions r before after
sessions_go r before [] p is = record { fit = tt; whole = ap (λ (l : List (ℕ × Session)). with_entries r (map lagging_entry l)) (sym (append-nil before)) }
sessions_go r before (e ∷ after) p is =
    let under : (f : ℕ × Session) → IsIn f before → f.0 < e.0 = above_before before after e (subst IsRising is p.sessions) in
    let below : (f : ℕ × Session) → IsIn f (map lagging_entry before) → f.0 < e.0 = λ f h. let x = in_lagging before f h in subst (λ (k : ℕ). k < e.0) (sym x.2) (under x.0 x.1) in
    let found : session_at r e.0 ≡ Some e.1 = entry_found r.sessions before after e under is in
    let l : List (ℕ × Session) = map lagging_entry before in
    let count : length e.1.slots ≡ e.1.granted.slots = (p.slots e.0 e.1 found).count in
    let began : with_restored (with_entries r l) e.0 (held_of e.1) ≡ with_entries r (l ++ ((e.0, in_part e.1 [] (length e.1.slots)) ∷ [])) =
    ap (with_entries r) (inserted_last l e.0 (restored_session e.1.client e.1.granted) below)
    ∙ ap (λ (n : ℕ). with_entries r (l ++ ((e.0, in_part e.1 [] n) ∷ []))) (sym count) in
    let slots = slots_go r l e.0 e.1 [] e.1.slots 0 below refl refl (session_reads r e p found) in
    let done : with_slots e.0 0 e.1.slots (with_restored (with_entries r l) e.0 (held_of e.1)) ≡ with_entries r (map lagging_entry (before ++ (e ∷ []))) =
    ap (λ (q : Registry). with_slots e.0 0 e.1.slots q) began ∙ slots.whole ∙ ap (with_entries r) (sym (one_more_session before e)) in
    let again : before ++ (e ∷ after) ≡ (before ++ (e ∷ [])) ++ after = sym (append_assoc before (e ∷ []) after) in
    let rest = sessions_go r (before ++ (e ∷ [])) after p (is ∙ again) in
    record {
      fit = (
        session_is_fit r before after e p is,
        subst (λ (q : Registry). SlotsFit e.0 0 e.1.slots q) (sym began) slots.fit,
        subst (λ (q : Registry). SessionsFit after q) (sym done) rest.fit,
      );
      whole = ap (λ (q : Registry). with_sessions after q) done ∙ rest.whole ∙ ap (λ (l : List (ℕ × Session)). with_entries r (map lagging_entry l)) (sym again);
    }

-- ---- the whole registry

pub is_restored : (r : Registry) → IsReadable r → IsRestored r
is_restored r p =
    let records = records_go r [] r.clients p refl in
    let sessions = sessions_go r [] r.sessions p refl in
    record {
      records_fit = records.fit;
      sessions_fit = subst (λ (q : Registry). SessionsFit r.sessions q) (sym records.whole) sessions.fit;
      whole = ap (λ (q : Registry). with_sessions r.sessions q) records.whole ∙ sessions.whole;
    }
