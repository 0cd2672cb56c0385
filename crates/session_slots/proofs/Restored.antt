-- Clients and sessions stay orderly when they are restored, and when a client is expired.
use Rattle.std.proofs.Common.{◌≡◌, ◌≢◌, inl, inr, ℕ, ◌<◌, ◌≤◌, ◌+◌, ◌==◌, ◌&&◌, Bool, true, false, not, nat_eq, nat_lt, nat_le, List, [], ◌∷◌, map, cond, length, Option, Some, None, is_some, is_none, Result, Ok, Err, refl, sym, ap, ◌∙◌, subst, arith}
use Rattle.std.specs.Cmp.Lexicographic.{pointwise, same_text}
use Rattle.std.specs.Option.{IfSome, option_map_or}
use Rattle.std.specs.Result.{OnOk, OnErr}
use Rattle.std.specs.Map.{lookup, set_value}
use Rattle.std.proofs.lemmas.Map.Steps.{set_value_same}
use Rattle.std.specs.BTreeMap.{is_at}
use Rattle.std.specs.Ordering.{nat_cmp}
use Rattle.session_slots.specs.declared.session.Channel.{Channel}
use Rattle.session_slots.specs.declared.session.Held.{Held}
use Rattle.session_slots.specs.Limits.{MOST_SLOTS, MOST_BYTES, LEAST_REPLY, MOST_OPERATIONS, END}
use Rattle.session_slots.specs.Slots.{Cached, restored, finished}
use Rattle.session_slots.specs.Registry.{Client, Session, Registry, client_at, session_at, is_confirmed_of, confirmed_entry, changed_client, cache_size, restored_session, with_session, with_place}
use Rattle.session_slots.specs.Orderly.{has_form, IsIn, IsWithin, IsOrderly}
use Rattle.session_slots.specs.Restoring.{numbers_fit, with_numbers, record_fits, with_record, is_within, is_home, session_fits, with_restored, slot_fits, with_cached, held_of, headed, HeadsStay}
use Rattle.nfs_types.specs.declared.status.Status.{Status}
use Rattle.session_slots.specs.Sequencing.{Asked, grant_fault, begun_unless, session_begun, sequence_begun}
use Rattle.session_slots.specs.Expiring.{expire}
use Rattle.session_slots.proofs.Members.{lookup_in, in_filter, found_kept, in_insert, found_insert, none_passes, length_filter, length_insert}
use Rattle.session_slots.proofs.Orderly.{with_session_orderly}

-- ---- tests

both : (a b : Bool) → (a && b) ≡ true → (a ≡ true) × (b ≡ true)
both true b h = (refl, h)
both false b h = cc

less : (m n : ℕ) → nat_lt m n ≡ true → m < n
less m n h = grind (arith, h)

at_most : (m n : ℕ) → nat_le m n ≡ true → m ≤ n
at_most m n h = grind (arith, h)

below : (l m n : ℕ) → l < m → m ≤ n → l < n
below l m n h i = omega (arith, h, i)

one_more : (l m n : ℕ) → l ≤ m + 1 → m < n → l ≤ n
one_more l m n h i = omega (arith, h, i)

is_absent : {X : Type 0} (o : Option X) → is_none o ≡ true → o ≡ None
is_absent None h = refl
is_absent (Some x) h = cc

no_other : {X : Type 0} (b : Bool) (o : Option X) → not (b && is_some o) ≡ true → b ≡ true → o ≡ None
no_other true None h t = refl
no_other true (Some x) h t = cc
no_other false o h t = cc

numbers_orderly : (next_client next_session : ℕ) (r : Registry) → numbers_fit r next_client next_session ≡ true → IsOrderly r → IsOrderly (with_numbers next_client next_session r)
numbers_orderly next_client next_session r fits o =
    let one = both (nat_le r.next_client next_client) _ fits in
    let two = both (nat_le r.next_session next_session) _ one.1 in
    let three = both (nat_le next_client END) (nat_le next_session END) two.1 in record {
      numbered = λ e h. let was = o.numbered e h in (was.0, below e.0 r.next_client next_client was.1 (at_most r.next_client next_client one.0));
      one_confirmed = o.one_confirmed;
      given = λ e h. below e.0 r.next_session next_session (o.given e h) (at_most r.next_session next_session two.0);
      at_home = o.at_home;
      within = o.within;
      formed = o.formed;
      few_clients = o.few_clients;
      few_sessions = o.few_sessions;
      clients_end = at_most next_client END three.0;
      sessions_end = at_most next_session END three.1;
    }

pub numbered_orderly : (old new : Registry) (next_client next_session : ℕ) → new ≡ with_numbers next_client next_session old → numbers_fit old next_client next_session ≡ true → IsOrderly old → IsOrderly new
numbered_orderly old new next_client next_session is fits o = subst IsOrderly (sym is) (numbers_orderly next_client next_session old fits o)

-- ---- a record

is_confirmed : (c : Client) (owner : List ℕ) → is_confirmed_of owner c ≡ true → (c.confirmed ≡ true) × (c.owner ≡ owner)
is_confirmed c owner h = let b = both c.confirmed (pointwise nat_eq c.owner owner) h in (b.0, same_text c.owner owner (sym b.1))

-- a confirmed record of the owner beside a new confirmed one
two_confirmed : (r : Registry) (c : Client) (owner : List ℕ) (f : ℕ × Client) → not (c.confirmed && is_some (confirmed_entry r c.owner)) ≡ true → IsIn f r.clients → is_confirmed_of owner c ≡ true → is_confirmed_of owner f.1 ≡ true → ⊥
two_confirmed r c owner f alone m a b =
    let mine = is_confirmed c owner a in
    let none : confirmed_entry r c.owner ≡ None = no_other c.confirmed (confirmed_entry r c.owner) alone mine.0 in
    let not_it : is_confirmed_of c.owner f.1 ≡ false = none_passes (is_confirmed_of c.owner) r.clients f none m in
    let it : is_confirmed_of c.owner f.1 ≡ true = subst (λ (w : List ℕ). is_confirmed_of w f.1 ≡ true) (sym mine.1) b in
    let clash : true ≡ false = sym it ∙ not_it in cc

found_is_another : {X : Type 0} (es : List (ℕ × X)) (k n : ℕ) (x : X) → lookup (is_at (nat_cmp k)) es ≡ Some x → lookup (is_at (nat_cmp n)) es ≡ None → k ≢ n
found_is_another es k n x found absent same =
    let clash : Some x ≡ None = sym found ∙ ap (λ (m : ℕ). lookup (is_at (nat_cmp m)) es) same ∙ absent in cc

pub record_orderly : (r : Registry) (c : Client) → record_fits r c ≡ true → IsOrderly r → IsOrderly (with_record r c)
record_orderly r c fits o =
    let one = both (nat_lt c.number r.next_client) _ fits in
    let two = both (nat_lt (length r.clients) r.limits.clients) _ one.1 in
    let three = both (is_none (client_at r c.number)) _ two.1 in
    let four = both (not (c.confirmed && is_some (confirmed_entry r c.owner))) (has_form c) three.1 in
    let absent : client_at r c.number ≡ None = is_absent (client_at r c.number) three.0 in record {
      numbered = λ e h. elim (in_insert r.clients c.number c e h) [
        | inl m ↦ o.numbered e m
        | inr q ↦ (
          ap (λ (e : ℕ × Client). e.1.number) q ∙ sym (ap (λ (e : ℕ × Client). e.0) q),
          subst (λ (k : ℕ). k < r.next_client) (sym (ap (λ (e : ℕ × Client). e.0) q)) (less c.number r.next_client one.0),
        )
      ];
      one_confirmed = λ owner e f h k a b. elim (in_insert r.clients c.number c e h) [
        | inl m ↦ elim (in_insert r.clients c.number c f k) [
          | inl n ↦ o.one_confirmed owner e f m n a b
          | inr p ↦ absurd (two_confirmed r c owner e four.0 m (sym (ap (λ (f : ℕ × Client). is_confirmed_of owner f.1) p) ∙ b) a)
        ]
        | inr q ↦ elim (in_insert r.clients c.number c f k) [
          | inl n ↦ absurd (two_confirmed r c owner f four.0 n (sym (ap (λ (e : ℕ × Client). is_confirmed_of owner e.1) q) ∙ a) b)
          | inr p ↦ ap (λ (e : ℕ × Client). e.0) q ∙ sym (ap (λ (e : ℕ × Client). e.0) p)
        ]
      ];
      given = o.given;
      formed = λ e h. elim (in_insert r.clients c.number c e h) [ inl m ↦ o.formed e m | inr q ↦ ap (λ (e : ℕ × Client). has_form e.1) q ∙ four.1 ];
      at_home = λ e h. let home = o.at_home e h in (
        home.0,
        found_insert e.1.client c.number r.clients c (found_is_another r.clients e.1.client c.number home.0 home.1 absent) ∙ home.1,
        home.2,
      );
      within = o.within;
      few_clients = one_more _ (length r.clients) r.limits.clients (length_insert r.clients c.number c) (less (length r.clients) r.limits.clients two.0);
      few_sessions = o.few_sessions;
      clients_end = o.clients_end;
      sessions_end = o.sessions_end;
    }

-- ---- a session

within_of : (g : Channel) → is_within g ≡ true → IsWithin g × (1 ≤ g.slots)
within_of g h =
    let one = both (nat_le g.request_size MOST_BYTES) _ h in
    let two = both (nat_le LEAST_REPLY g.reply_size) _ one.1 in
    let three = both (nat_le g.reply_size MOST_BYTES) _ two.1 in
    let four = both (nat_le g.operations MOST_OPERATIONS) _ three.1 in
    let five = both (nat_le g.slots MOST_SLOTS) _ four.1 in (
      record {
        requests = at_most g.request_size MOST_BYTES one.0;
        least = at_most LEAST_REPLY g.reply_size two.0;
        replies = at_most g.reply_size MOST_BYTES three.0;
        operations = at_most g.operations MOST_OPERATIONS four.0;
        slots = at_most g.slots MOST_SLOTS five.0;
      },
      at_most 1 g.slots five.1,
    )

home_of : (o : Option Client) → is_home o ≡ true → (c : Client) × (o ≡ Some c) × (c.confirmed ≡ true)
home_of None h = cc
home_of (Some c) h = (c, refl, h)

pub session_orderly : (r : Registry) (number : ℕ) (held : Held) → session_fits r number held ≡ true → IsOrderly r → IsOrderly (with_restored r number held)
session_orderly r number held fits o =
    let one = both (nat_lt number r.next_session) _ fits in
    let two = both (nat_lt (length r.sessions) r.limits.sessions) _ one.1 in
    let three = both (is_none (session_at r number)) _ two.1 in
    let four = both (is_home (client_at r held.client)) (is_within held.granted) three.1 in
    let new : Session = restored_session held.client held.granted in record {
      numbered = o.numbered;
      one_confirmed = o.one_confirmed;
      given = λ e h. elim (in_insert r.sessions number new e h) [
        | inl m ↦ o.given e m
        | inr q ↦ subst (λ (k : ℕ). k < r.next_session) (sym (ap (λ (e : ℕ × Session). e.0) q)) (less number r.next_session one.0)
      ];
      at_home = λ e h. elim (in_insert r.sessions number new e h) [
        | inl m ↦ o.at_home e m
        | inr q ↦ let home = home_of (client_at r held.client) four.0 in (
          home.0,
          ap (λ (k : ℕ). client_at r k) (ap (λ (e : ℕ × Session). e.1.client) q) ∙ home.1,
          home.2,
        )
      ];
      within = λ e h. elim (in_insert r.sessions number new e h) [
        | inl m ↦ o.within e m
        | inr q ↦ subst IsWithin (sym (ap (λ (e : ℕ × Session). e.1.granted) q)) (within_of held.granted four.1).0
      ];
      formed = o.formed;
      few_clients = o.few_clients;
      few_sessions = one_more _ (length r.sessions) r.limits.sessions (length_insert r.sessions number new) (less (length r.sessions) r.limits.sessions two.0);
      clients_end = o.clients_end;
      sessions_end = o.sessions_end;
    }

pub session_has_slots : (r : Registry) (number : ℕ) (held : Held) → session_fits r number held ≡ true → 1 ≤ held.granted.slots
session_has_slots r number held fits =
    let one = both (nat_lt number r.next_session) _ fits in
    let two = both (nat_lt (length r.sessions) r.limits.sessions) _ one.1 in
    let three = both (is_none (session_at r number)) _ two.1 in
    let four = both (is_home (client_at r held.client)) (is_within held.granted) three.1 in
    (within_of held.granted four.1).1

-- ---- a slot

pub fits_slot : (o : Option Session) (slot : ℕ) (k : Cached) → slot_fits o slot k ≡ true → IfSome o (λ s. slot < s.granted.slots)
fits_slot None slot k h = tt
fits_slot (Some s) slot k h = less slot s.granted.slots (both (nat_lt slot s.granted.slots) _ h).0

pub fits_arguments : (o : Option Session) (slot : ℕ) (k : Cached) → slot_fits o slot k ≡ true → IfSome o (λ s. length k.call.arguments ≤ s.granted.request_size)
fits_arguments None slot k h = tt
fits_arguments (Some s) slot k h =
    at_most (length k.call.arguments) s.granted.request_size (both (nat_le (length k.call.arguments) s.granted.request_size) _ (both (nat_lt slot s.granted.slots) _ h).1).0

pub fits_results : (o : Option Session) (slot : ℕ) (k : Cached) → slot_fits o slot k ≡ true → IfSome o (λ s. length k.results ≤ cache_size s.granted)
fits_results None slot k h = tt
fits_results (Some s) slot k h =
    at_most (length k.results) (cache_size s.granted) (both (nat_le (length k.call.arguments) s.granted.request_size) _ (both (nat_lt slot s.granted.slots) _ h).1).1

-- the bounds of a cached call that fits a slot
pub ruleset slot_fit_facts = (fits_slot, fits_arguments, fits_results)

pub slot_orderly : (r : Registry) (session slot : ℕ) (k : Cached) → IsOrderly r → IsOrderly (with_cached r session slot k)
slot_orderly r session slot k o = with_session_orderly r session (with_place slot (restored k)) (λ s. refl) (λ s. refl) o

pub slot_restored_orderly : (old new : Registry) (session slot : ℕ) (k : Cached) → new ≡ with_cached old session slot k → IsOrderly old → IsOrderly new
slot_restored_orderly old new session slot k is o = subst IsOrderly (sym is) (slot_orderly old session slot k o)

pub record_restored_orderly : {T E : Type 0} (old new : Registry) (c : Client) (result : Result T E) → record_fits old c ≡ true → OnOk result (new ≡ with_record old c) → OnErr result (new ≡ old) → IsOrderly old → IsOrderly new
record_restored_orderly old new c (Ok t) fits ok err o = subst IsOrderly (sym ok) (record_orderly old c fits o)
record_restored_orderly old new c (Err e) fits ok err o = subst IsOrderly (sym err) o

pub session_restored_orderly : {T E : Type 0} (old new : Registry) (number : ℕ) (held : Held) (result : Result T E) → session_fits old number held ≡ true → OnOk result (new ≡ with_restored old number held) → OnErr result (new ≡ old) →
    IsOrderly old → IsOrderly new
session_restored_orderly old new number held (Ok t) fits ok err o = subst IsOrderly (sym ok) (session_orderly old number held fits o)
session_restored_orderly old new number held (Err e) fits ok err o = subst IsOrderly (sym err) o

-- ---- calls change slots alone

heads_step : (test : ℕ → Bool) (b : Bool) (e : ℕ × Session) (es : List (ℕ × Session)) (v w : Session) → held_of w ≡ held_of v → cond b (Some e.1) (lookup test es) ≡ Some v →
    (lookup test es ≡ Some v → map headed (set_value test es w) ≡ map headed es) →
    map headed (cond b ((e.0, w) ∷ es) (e ∷ set_value test es w)) ≡ map headed (e ∷ es)
heads_step test true e es v w same h ih =
    let is : e.1 ≡ v = cc in ap (λ (k : Held). (e.0, k) ∷ map headed es) (same ∙ ap held_of (sym is))
heads_step test false e es v w same h ih = ap (λ (rest : List (ℕ × Held)). (e.0, held_of e.1) ∷ rest) (ih h)

heads_set : (test : ℕ → Bool) (es : List (ℕ × Session)) (v w : Session) → held_of w ≡ held_of v → lookup test es ≡ Some v → map headed (set_value test es w) ≡ map headed es
heads_set test [] v w same h = refl
heads_set test (e ∷ es) v w same h = heads_step test (test e.0) e es v w same h (heads_set test es v w same)

heads_if : (test : ℕ → Bool) (f : Session → Session) (es : List (ℕ × Session)) (o : Option Session) → ((s : Session) → held_of (f s) ≡ held_of s) → lookup test es ≡ o →
    map headed (option_map_or (λ s. set_value test es (f s)) o es) ≡ map headed es
heads_if test f es None same h = refl
heads_if test f es (Some s) same h = heads_set test es s (f s) (same s) h

heads_stay : (r : Registry) (n : ℕ) (f : Session → Session) → ((s : Session) → held_of (f s) ≡ held_of s) → HeadsStay r (with_session n f r)
heads_stay r n f same = record { limits = refl; records = refl; sessions = heads_if (is_at (nat_cmp n)) f r.sessions (session_at r n) same refl; next_client = refl; next_session = refl }

begun_held : (f : Option Status) (s : Session) (a : Asked) → held_of (begun_unless f s a) ≡ held_of s
begun_held None s a = refl
begun_held (Some status) s a = refl

pub begun_heads : (r : Registry) (session : ℕ) (a : Asked) → HeadsStay r (sequence_begun r session a)
begun_heads r session a = heads_stay r session (λ s. session_begun s a) (λ s. begun_held (grant_fault s.granted a) s a)

pub kept_heads : (r : Registry) (session slot : ℕ) (results : List ℕ) → HeadsStay r (with_session session (with_place slot (λ p. finished p results)) r)
kept_heads r session slot results = heads_stay r session (with_place slot (λ p. finished p results)) (λ s. refl)

-- ---- a client is expired

-- a change that changes nothing
pub changed_by_nothing : (n : ℕ) (clients : List (ℕ × Client)) → changed_client n (λ c. c) clients ≡ clients
changed_by_nothing n clients = nothing_if n clients (lookup (is_at (nat_cmp n)) clients) refl
  where
    nothing_if : (n : ℕ) (clients : List (ℕ × Client)) (o : Option Client) → lookup (is_at (nat_cmp n)) clients ≡ o → option_map_or (λ c. set_value (is_at (nat_cmp n)) clients c) o clients ≡ clients
    nothing_if n clients None e = refl
    nothing_if n clients (Some c) e = set_value_same (is_at (nat_cmp n)) clients c e

fewer : (l m n : ℕ) → l ≤ m → m ≤ n → l ≤ n
fewer l m n h i = omega (arith, h, i)

pub expire_orderly : (client : ℕ) (r : Registry) → IsOrderly r → IsOrderly (expire client r)
expire_orderly client r o =
    let p : ℕ × Client → Bool = λ e. not (e.0 == client) in
    let q : ℕ × Session → Bool = λ e. not (e.1.client == client) in record {
      numbered = λ e h. o.numbered e (in_filter p r.clients e h).0;
      one_confirmed = λ owner e f h k a b. o.one_confirmed owner e f (in_filter p r.clients e h).0 (in_filter p r.clients f k).0 a b;
      given = λ e h. o.given e (in_filter q r.sessions e h).0;
      at_home = λ e h. let stay = in_filter q r.sessions e h in let home = o.at_home e stay.0 in (
        home.0,
        found_kept e.1.client p r.clients home.0 home.1 stay.1,
        home.2,
      );
      within = λ e h. o.within e (in_filter q r.sessions e h).0;
      formed = λ e h. o.formed e (in_filter p r.clients e h).0;
      few_clients = fewer _ _ r.limits.clients (length_filter p r.clients) o.few_clients;
      few_sessions = fewer _ _ r.limits.sessions (length_filter q r.sessions) o.few_sessions;
      clients_end = o.clients_end;
      sessions_end = o.sessions_end;
    }

pub expired_orderly : (old new : Registry) (client : ℕ) → new ≡ expire client old → IsOrderly old → IsOrderly new
expired_orderly old new client is o = subst IsOrderly (sym is) (expire_orderly client old o)

-- ---- a record that is found has a form

pub found_form : (r : Registry) (client : ℕ) → IsOrderly r → IfSome (client_at r client) (λ c. has_form c ≡ true)
found_form r client o = form_if r client (client_at r client) refl o
  where
    form_if : (r : Registry) (client : ℕ) (found : Option Client) → client_at r client ≡ found → IsOrderly r → IfSome found (λ c. has_form c ≡ true)
    form_if r client None is o = tt
    form_if r client (Some c) is o = o.formed (client, c) (lookup_in client r.clients c is)
