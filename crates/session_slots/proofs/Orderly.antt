-- Records and sessions stay orderly.
use Rattle.std.proofs.Common.{◌≡◌, ◌≢◌, ◌⊎◌, inl, inr, ℕ, ◌+◌, ◌-◌, ◌<◌, ◌==◌, ◌&&◌, ◌||◌, Bool, true, false, not, if◌then◌else◌, nat_eq, List, filter, find, Option, Some, None, Result, Ok, Err, refl, sym, ap, ◌∙◌, subst, arith, ◌≤◌, length, nat_le, lit≤, suc, nat_lt, min, max}
use Rattle.std.specs.Option.{option_map, MatchOption}
use Rattle.std.specs.Result.{OnOk, OnErr, IsOk}
use Rattle.std.specs.Cmp.Lexicographic.{pointwise, same_text}
use Rattle.std.specs.Map.{lookup, values_of}
use Rattle.std.specs.BTreeMap.{is_at, insert_entry}
use Rattle.std.specs.Ordering.{nat_cmp}
use Rattle.nfs_types.specs.declared.status.Status.{Status}
use Rattle.nfs_types.specs.declared.status.Status.TheVariants as statuses
use Rattle.std.specs.Prelude.{[], ◌∷◌, map}
use Rattle.std.proofs.lemmas.List.{length-map}
use Rattle.std.proofs.lemmas.Bool.{leb-false}
use Rattle.nfs_types.specs.Limits.{Limits}
use Rattle.session_slots.specs.Limits.{MOST_SLOTS, MOST_BYTES, MOST_RESULTS, LEAST_REPLY, MOST_OPERATIONS, MOST_OWNER, END}
use Rattle.session_slots.specs.Counting.{due, last_number}
use Rattle.session_slots.specs.declared.session.Channel.{Channel}
use Rattle.session_slots.specs.declared.client.Created.{Created}
use Rattle.session_slots.specs.declared.creating.Create.{Create}
use Rattle.session_slots.specs.declared.creating.Made.{Made}
use Rattle.session_slots.specs.declared.creating.Judged.TheVariants as judgements
use Rattle.session_slots.specs.declared.exchanging.Exchanged.{Exchanged}
use Rattle.session_slots.specs.declared.exchanging.ExchangeDecision.{ExchangeDecision}
use Rattle.session_slots.specs.declared.exchanging.ExchangeDecision.TheVariants as decisions
use Rattle.session_slots.specs.Covering.{all_lagging, lagging, lagging_at, session_lagging}
use Rattle.session_slots.specs.Slots.{finished}
use Rattle.session_slots.specs.Registry.{Client, Session, Registry, nobody, client_at, most_cached, session_at, is_confirmed_of, confirmed_entry, changed_client, without_record, without_sessions, new_session, with_session, with_place}
use Rattle.session_slots.specs.Orderly.{is_cached_refusal, is_cached_result, has_creation_form, has_form, IsIn, IsWithin, IsOrderly}
use Rattle.session_slots.specs.Sequencing.{Asked, grant_fault, begun_unless, session_begun, sequence_begun}
use Rattle.session_slots.specs.Creating.{number_of, granted, refusing, created_of, accepts, with_refusal, is_other, other_record, with_creation, judged_due, judged_unless, judged_for, CreatesBy, Creates, cached_result, creation_fault}
use Rattle.session_slots.specs.Exchanging.{Exchanging, is_unconfirmed_of, without_unconfirmed, goes, stays, new_client, with_client, flags_fault, is_full, confirmed_answer, decision_for_new, decision_by_confirmed, decision_unless, exchange_decision, ExchangesBy, Exchanges}
use Rattle.session_slots.specs.Destroying.{without_session, has_sessions, busy_unless_none, destroy_client_refusal, without_client, has_reclaimed, with_reclaimed}
use Rattle.session_slots.proofs.Found.{lookup_changed, found_passes}
use Rattle.session_slots.proofs.Members.{lookup_in, in_filter, found_kept, in_changed, found_beside, in_insert, found_insert, in_remove, lookup_removed, found_entry, none_passes, none_of, length_filter, length_remove, length_changed, length_insert, length_added}
use Rattle.session_slots.proofs.Creations.{still_there}

pub nobody_is_orderly : (r : Registry) (l : Limits) → r ≡ nobody l → IsOrderly r
nobody_is_orderly r l is = subst IsOrderly (sym is) (record {
  numbered = λ e h. absurd h;
  one_confirmed = λ owner e f h k a b. absurd h;
  given = λ e h. absurd h;
  at_home = λ e h. absurd h;
  within = λ e h. absurd h;
  formed = λ e h. absurd h;
  few_clients = omega arith;
  few_sessions = omega arith;
  clients_end = lit≤ tt;
  sessions_end = lit≤ tt;
})

-- ---- a session is changed, and keeps its client

pub with_session_orderly : (r : Registry) (n : ℕ) (f : Session → Session) → ((s : Session) → (f s).client ≡ s.client) → ((s : Session) → (f s).granted ≡ s.granted) →
    IsOrderly r → IsOrderly (with_session n f r)
with_session_orderly r n f keeps grants o = record {
  numbered = o.numbered;
  one_confirmed = o.one_confirmed;
  given = λ e h. elim (in_changed n f r.sessions e h) [
    | inl m ↦ o.given e m
    | inr x ↦ subst (λ (e : ℕ × Session). e.0 < r.next_session) (sym x.2) (o.given (n, x.0) (lookup_in n r.sessions x.0 x.1))
  ];
  at_home = λ e h. elim (in_changed n f r.sessions e h) [
    | inl m ↦ o.at_home e m
    | inr x ↦ let home = o.at_home (n, x.0) (lookup_in n r.sessions x.0 x.1) in (
      home.0,
      ap (λ (k : ℕ). client_at r k) (ap (λ (e : ℕ × Session). e.1.client) x.2 ∙ keeps x.0) ∙ home.1,
      home.2,
    )
  ];
  within = λ e h. elim (in_changed n f r.sessions e h) [
    | inl m ↦ o.within e m
    | inr x ↦ subst IsWithin (sym (ap (λ (e : ℕ × Session). e.1.granted) x.2 ∙ grants x.0)) (o.within (n, x.0) (lookup_in n r.sessions x.0 x.1))
  ];
  formed = o.formed;
  few_clients = o.few_clients;
  few_sessions = subst (λ (k : ℕ). k ≤ r.limits.sessions) (sym (length_changed (is_at (nat_cmp n)) f r.sessions (lookup (is_at (nat_cmp n)) r.sessions))) o.few_sessions;
  clients_end = o.clients_end;
  sessions_end = o.sessions_end;
}

-- ---- all slots lag

in_map : {X Y : Type 0} (f : X → Y) (xs : List X) (y : Y) → IsIn y (map f xs) → (x : X) × IsIn x xs × (y ≡ f x)
in_map f [] y h = absurd h
in_map f (x ∷ xs) y (inl is) = (x, inl refl, is)
in_map f (x ∷ xs) y (inr h) = let more = in_map f xs y h in (more.0, inr more.1, more.2)

pub all_lagged_orderly : (old new : Registry) → new ≡ all_lagging old → IsOrderly old → IsOrderly new
all_lagged_orderly old new is o = subst IsOrderly (sym is) (record {
  numbered = o.numbered;
  one_confirmed = o.one_confirmed;
  given = λ e h. let was = in_map (λ (e : ℕ × Session). (e.0, session_lagging e.1)) old.sessions e h in
      subst (λ (e : ℕ × Session). e.0 < old.next_session) (sym was.2) (o.given was.0 was.1);
  at_home = λ e h. let was = in_map (λ (e : ℕ × Session). (e.0, session_lagging e.1)) old.sessions e h in
      let home = o.at_home was.0 was.1 in (home.0, ap (λ (e : ℕ × Session). client_at old e.1.client) was.2 ∙ home.1, home.2);
  within = λ e h. let was = in_map (λ (e : ℕ × Session). (e.0, session_lagging e.1)) old.sessions e h in
      subst (λ (e : ℕ × Session). IsWithin e.1.granted) (sym was.2) (o.within was.0 was.1);
  formed = o.formed;
  few_clients = o.few_clients;
  few_sessions = subst (λ (k : ℕ). k ≤ old.limits.sessions) (sym (length-map old.sessions (λ (e : ℕ × Session). (e.0, session_lagging e.1)))) o.few_sessions;
  clients_end = o.clients_end;
  sessions_end = o.sessions_end;
})

begun_granted : (f : Option Status) (s : Session) (a : Asked) → (begun_unless f s a).granted ≡ s.granted
begun_granted None s a = refl
begun_granted (Some status) s a = refl

begun_client : (f : Option Status) (s : Session) (a : Asked) → (begun_unless f s a).client ≡ s.client
begun_client None s a = refl
begun_client (Some status) s a = refl

pub begun_orderly : (old new : Registry) (session : ℕ) (a : Asked) → new ≡ sequence_begun old session a → IsOrderly old → IsOrderly new
begun_orderly old new session a is o = subst IsOrderly (sym is) (with_session_orderly old session (λ s. session_begun s a) (λ s. begun_client (grant_fault s.granted a) s a) (λ s. begun_granted (grant_fault s.granted a) s a) o)

pub kept_orderly : (old new : Registry) (session slot : ℕ) (results : List ℕ) → new ≡ with_session session (with_place slot (λ p. finished p results)) old → IsOrderly old → IsOrderly new
kept_orderly old new session slot results is o = subst IsOrderly (sym is) (with_session_orderly old session (with_place slot (λ p. finished p results)) (λ s. refl) (λ s. refl) o)

pub lagged_orderly : (old new : Registry) (session slot : ℕ) → new ≡ lagging_at session slot old → IsOrderly old → IsOrderly new
lagged_orderly old new session slot is o = subst IsOrderly (sym is) (with_session_orderly old session (with_place slot lagging) (λ s. refl) (λ s. refl) o)

-- ---- a record is changed, and keeps its number and owner, and whether it is confirmed

pub record KeepsName (f : Client → Client) : Type 0 where
  pub number : (c : Client) → (f c).number ≡ c.number
  pub owner : (owner : List ℕ) (c : Client) → is_confirmed_of owner (f c) ≡ is_confirmed_of owner c
  pub confirmed : (c : Client) → (f c).confirmed ≡ c.confirmed
  pub form : (c : Client) → has_form c ≡ true → has_form (f c) ≡ true

-- the entry before the change
was : (r : Registry) (n : ℕ) (f : Client → Client) → KeepsName f → (e : ℕ × Client) → IsIn e (changed_client n f r.clients) →
    (x : ℕ × Client) × IsIn x r.clients × (x.0 ≡ e.0) × (x.1.number ≡ e.1.number) × ((owner : List ℕ) → is_confirmed_of owner x.1 ≡ is_confirmed_of owner e.1)
was r n f keeps e h =
    elim (in_changed n f r.clients e h) [
      | inl m ↦ (e, m, refl, refl, λ owner. refl)
      | inr x ↦ (
        (n, x.0),
        lookup_in n r.clients x.0 x.1,
        sym (ap (λ (e : ℕ × Client). e.0) x.2),
        sym (ap (λ (e : ℕ × Client). e.1.number) x.2 ∙ keeps.number x.0),
        λ owner. sym (ap (λ (e : ℕ × Client). is_confirmed_of owner e.1) x.2 ∙ keeps.owner owner x.0),
      )
    ]

-- the confirmed record of a client is found after a change that confirms it, or leaves it confirmed
home_if : (clients : List (ℕ × Client)) (n k : ℕ) (f : Client → Client) (b : Bool) → ((c : Client) → c.confirmed ≡ true → (f c).confirmed ≡ true) → (n == k) ≡ b →
    (c : Client) → lookup (is_at (nat_cmp k)) clients ≡ Some c → c.confirmed ≡ true →
    (d : Client) × (lookup (is_at (nat_cmp k)) (changed_client n f clients) ≡ Some d) × (d.confirmed ≡ true)
home_if clients n k f true keeps t c is_c is_confirmed =
    let same : n ≡ k = grind (arith, t) in
    let here : lookup (is_at (nat_cmp n)) clients ≡ Some c = ap (λ (m : ℕ). lookup (is_at (nat_cmp m)) clients) same ∙ is_c in (
      f c,
      subst (λ (m : ℕ). lookup (is_at (nat_cmp m)) (changed_client n f clients) ≡ Some (f c)) same (lookup_changed (is_at (nat_cmp n)) clients f c here),
      keeps c is_confirmed,
    )
home_if clients n k f false keeps t c is_c is_confirmed =
    let apart : k ≢ n = grind (arith, t) in (
      c,
      found_beside k n f clients (lookup (is_at (nat_cmp n)) clients) apart ∙ is_c,
      is_confirmed,
    )

changed_orderly : (r : Registry) (n : ℕ) (f : Client → Client) → KeepsName f → IsOrderly r → IsOrderly (record r { clients = changed_client n f r.clients })
changed_orderly r n f keeps o = record {
  numbered = λ e h. let x = was r n f keeps e h in let old = o.numbered x.0 x.1 in
      (sym x.3 ∙ old.0 ∙ x.2, subst (λ (k : ℕ). k < r.next_client) x.2 old.1);
  one_confirmed = λ owner e g h k a b. let x = was r n f keeps e h in let y = was r n f keeps g k in
      sym x.2 ∙ o.one_confirmed owner x.0 y.0 x.1 y.1 (x.4 owner ∙ a) (y.4 owner ∙ b) ∙ y.2;
  given = o.given;
  at_home = λ e h. let home = o.at_home e h in home_if r.clients n e.1.client f (n == e.1.client) (λ c h. keeps.confirmed c ∙ h) refl home.0 home.1 home.2;
  within = o.within;
  formed = λ e h. elim (in_changed n f r.clients e h) [
    | inl m ↦ o.formed e m
    | inr x ↦ ap (λ (e : ℕ × Client). has_form e.1) x.2 ∙ keeps.form x.0 (o.formed (n, x.0) (lookup_in n r.clients x.0 x.1))
  ];
  few_clients = subst (λ (k : ℕ). k ≤ r.limits.clients) (sym (length_changed (is_at (nat_cmp n)) f r.clients (lookup (is_at (nat_cmp n)) r.clients))) o.few_clients;
  few_sessions = o.few_sessions;
  clients_end = o.clients_end;
  sessions_end = o.sessions_end;
}

pub with_reclaimed_orderly : (old : Registry) (client : ℕ) → IsOrderly old → IsOrderly (with_reclaimed old client)
with_reclaimed_orderly old client o = changed_orderly old client has_reclaimed (record { number = λ c. refl; owner = λ owner c. refl; confirmed = λ c. refl; form = λ c h. h }) o

-- a short owner, with a call that may be cached
owner_is_short : (b d : Bool) → (if b then false else d) ≡ true → b ≡ false
owner_is_short true d h = cc
owner_is_short false d h = refl

accepted_form : (c : Client) (a : Create) (result : Result Created Status) → is_cached_result result ≡ true → has_form c ≡ true → has_form (accepts a result c) ≡ true
accepted_form c a result kept h = ap (λ (b : Bool). if b then false else is_cached_result result) (owner_is_short (nat_lt MOST_OWNER (length c.owner)) (has_creation_form c.created) h) ∙ kept

with_refusal_orderly : (r : Registry) (a : Create) (status : Status) → is_cached_refusal status ≡ true → IsOrderly r → IsOrderly (with_refusal r a status)
with_refusal_orderly r a status kept o =
    changed_orderly r a.client (accepts a (Err status)) (record { number = λ c. refl; owner = λ owner c. refl; confirmed = λ c. refl; form = λ c h. accepted_form c a (Err status) kept h }) o

-- ---- DESTROY_SESSION, DESTROY_CLIENTID, RECLAIM_COMPLETE

at_most : (m n k : ℕ) → m ≤ n → n ≤ k → m ≤ k
at_most m n k h i = omega arith

removed_session_orderly : (r : Registry) (session : ℕ) → IsOrderly r → IsOrderly (without_session r session)
removed_session_orderly r session o = record {
  numbered = o.numbered;
  one_confirmed = o.one_confirmed;
  given = λ e h. o.given e (in_remove (is_at (nat_cmp session)) r.sessions e h);
  at_home = λ e h. o.at_home e (in_remove (is_at (nat_cmp session)) r.sessions e h);
  within = λ e h. o.within e (in_remove (is_at (nat_cmp session)) r.sessions e h);
  formed = o.formed;
  few_clients = o.few_clients;
  few_sessions = at_most _ _ _ (length_remove (is_at (nat_cmp session)) r.sessions) o.few_sessions;
  clients_end = o.clients_end;
  sessions_end = o.sessions_end;
}

pub destroyed_session_orderly : {T : Type 0} (old new : Registry) (session : ℕ) (result : Result T Status) → OnOk result (new ≡ without_session old session) → OnErr result (new ≡ old) → IsOrderly old → IsOrderly new
destroyed_session_orderly old new session (Ok t) ok err o = subst IsOrderly (sym ok) (removed_session_orderly old session o)
destroyed_session_orderly old new session (Err status) ok err o = subst IsOrderly (sym err) o

not_equal : (m n : ℕ) → (n == m) ≡ false → m ≢ n
not_equal m n h = grind (arith, h)

removed_client_orderly : (r : Registry) (client : ℕ) → has_sessions r client ≡ false → IsOrderly r → IsOrderly (without_client r client)
removed_client_orderly r client none o = record {
  numbered = λ e h. o.numbered e (in_remove (is_at (nat_cmp client)) r.clients e h);
  one_confirmed = λ owner e f h k a b. o.one_confirmed owner e f (in_remove (is_at (nat_cmp client)) r.clients e h) (in_remove (is_at (nat_cmp client)) r.clients f k) a b;
  given = o.given;
  at_home = λ e h. let home = o.at_home e h in (
    home.0,
    lookup_removed client e.1.client r.clients (not_equal client e.1.client (none_of (λ s. s.client == client) r.sessions e none h)) ∙ home.1,
    home.2,
  );
  within = o.within;
  formed = λ e h. o.formed e (in_remove (is_at (nat_cmp client)) r.clients e h);
  few_clients = at_most _ _ _ (length_remove (is_at (nat_cmp client)) r.clients) o.few_clients;
  few_sessions = o.few_sessions;
  clients_end = o.clients_end;
  sessions_end = o.sessions_end;
}

not_busy : (o : Option Client) (opens sessions : Bool) → MatchOption (busy_unless_none o opens sessions) (Unit {0}) (λ status. ⊥) → sessions ≡ false
not_busy None opens sessions h = absurd h
not_busy (Some c) true sessions h = absurd h
not_busy (Some c) false true h = absurd h
not_busy (Some c) false false h = refl

unless_refused : {T : Type 0} (refusal : Option Status) (t : T) → MatchOption refusal (IsOk (let r : Result T Status = Ok t in r)) (λ status. Ok t ≡ Err status) → MatchOption refusal (Unit {0}) (λ status. ⊥)
unless_refused None t h = tt
unless_refused (Some status) t h = cc

pub destroyed_client_orderly : {T : Type 0} (old new : Registry) (client : ℕ) (has_opens : Bool) (result : Result T Status) → MatchOption (destroy_client_refusal old client has_opens) (IsOk result) (λ status. result ≡ Err status) →
    OnOk result (new ≡ without_client old client) → OnErr result (new ≡ old) → IsOrderly old → IsOrderly new
destroyed_client_orderly old new client has_opens (Ok t) refused ok err o =
    subst IsOrderly (sym ok) (removed_client_orderly old client (not_busy (client_at old client) has_opens (has_sessions old client) (unless_refused (destroy_client_refusal old client has_opens) t refused)) o)
destroyed_client_orderly old new client has_opens (Err status) refused ok err o = subst IsOrderly (sym err) o

pub reclaimed_orderly : {T : Type 0} (old new : Registry) (client : ℕ) (result : Result T Status) → OnOk result (new ≡ with_reclaimed old client) → OnErr result (new ≡ old) → IsOrderly old → IsOrderly new
reclaimed_orderly old new client (Ok t) ok err o = subst IsOrderly (sym ok) (with_reclaimed_orderly old client o)
reclaimed_orderly old new client (Err status) ok err o = subst IsOrderly (sym err) o

-- ---- EXCHANGE_ID

confirmed_stays : (b c : Bool) → c ≡ true → not (b && not c) ≡ true
confirmed_stays true true h = refl
confirmed_stays true false h = cc
confirmed_stays false c h = refl

known_orderly : (r : Registry) (owner : List ℕ) → IsOrderly r → IsOrderly (without_unconfirmed owner r)
known_orderly r owner o =
    let p : ℕ × Client → Bool = λ e. not (is_unconfirmed_of owner e.1) in record {
      numbered = λ e h. o.numbered e (in_filter p r.clients e h).0;
      one_confirmed = λ owner e f h k a b. o.one_confirmed owner e f (in_filter p r.clients e h).0 (in_filter p r.clients f k).0 a b;
      given = o.given;
      at_home = λ e h. let home = o.at_home e h in (
        home.0,
        found_kept e.1.client p r.clients home.0 home.1 (confirmed_stays (pointwise nat_eq home.0.owner owner) home.0.confirmed home.2),
        home.2,
      );
      within = o.within;
      formed = λ e h. o.formed e (in_filter p r.clients e h).0;
      few_clients = at_most _ _ _ (length_filter p r.clients) o.few_clients;
      few_sessions = o.few_sessions;
      clients_end = o.clients_end;
      sessions_end = o.sessions_end;
    }

length_stays : (leaving : Option ℕ) (sessions : List (ℕ × Session)) → length (without_sessions leaving sessions) ≤ length sessions
length_stays None sessions = omega arith
length_stays (Some client) sessions = length_filter (λ e. not (e.1.client == client)) sessions

-- a session that stays, and whose client stays
session_stays : (leaving : Option ℕ) (sessions : List (ℕ × Session)) (e : ℕ × Session) → IsIn e (without_sessions leaving sessions) → IsIn e sessions × (not (goes leaving e.1.client) ≡ true)
session_stays None sessions e h = (h, refl)
session_stays (Some client) sessions e h = in_filter (λ e. not (e.1.client == client)) sessions e h

-- an entry after an addition was in the list, or is the new one
was_or_new : (leaving : Option ℕ) (r : Registry) (a : Exchanging) (e : ℕ × Client) → IsIn e (with_client leaving r a).clients → IsIn e r.clients ⊎ (e ≡ (r.next_client, new_client r.next_client a))
was_or_new leaving r a e h = in_insert r.clients r.next_client (new_client r.next_client a) e (in_filter (λ e. e.0 == r.next_client || stays leaving a.owner e) (insert_entry nat_cmp r.clients r.next_client (new_client r.next_client a)) e h).0

not_confirmed : (a : Exchanging) (n : ℕ) (owner : List ℕ) (e : ℕ × Client) → e ≡ (n, new_client n a) → is_confirmed_of owner e.1 ≡ true → ⊥
not_confirmed a n owner e is h = let clash : false ≡ true = sym (ap (λ (e : ℕ × Client). is_confirmed_of owner e.1) is) ∙ h in cc

both : (a b c : Bool) → a ≡ true → b ≡ true → (c || (a && b)) ≡ true
both true true true h k = refl
both true true false h k = refl
both true false c h k = cc
both false b c h k = cc

below_is_apart : (m n : ℕ) → m < n → m ≢ n
below_is_apart m n h = grind (arith, h)

below_next : (m n : ℕ) → m < n → m < n + 1
below_next m n h = omega arith

just_below : (n : ℕ) → n < n + 1
just_below n = omega arith

or_false : (b c : Bool) → (b || c) ≡ false → (b ≡ false) × (c ≡ false)
or_false true c h = cc
or_false false c h = (refl, h)

one_more : (m n k : ℕ) → m ≡ suc n → n < k → m ≤ k
one_more m n k h i = omega arith

next_fits : (n k : ℕ) → n < k → n + 1 ≤ k
next_fits n k h = omega arith

new_form : (n : ℕ) (a : Exchanging) → length a.owner ≤ MOST_OWNER → has_form (new_client n a) ≡ true
new_form n a short = ap (λ (b : Bool). if b then false else true) (not_longer MOST_OWNER (length a.owner) short)
  where
    not_longer : (m n : ℕ) → n ≤ m → nat_lt m n ≡ false
    not_longer m n h = grind (arith, h)

made_orderly : (leaving : Option ℕ) (r : Registry) (a : Exchanging) → length a.owner ≤ MOST_OWNER → is_full leaving r a ≡ false → IsOrderly r → IsOrderly (with_client leaving r a)
made_orderly leaving r a short room o = record {
  numbered = λ e h. elim (was_or_new leaving r a e h) [
    | inl m ↦ let old = o.numbered e m in (old.0, below_next e.0 r.next_client old.1)
    | inr q ↦ (
      ap (λ (e : ℕ × Client). e.1.number) q ∙ sym (ap (λ (e : ℕ × Client). e.0) q),
      subst (λ (k : ℕ). k < r.next_client + 1) (sym (ap (λ (e : ℕ × Client). e.0) q)) (just_below r.next_client),
    )
  ];
  one_confirmed = λ owner e f h k x y. elim (was_or_new leaving r a e h) [
    | inr q ↦ absurd (not_confirmed a r.next_client owner e q x)
    | inl m ↦ elim (was_or_new leaving r a f k) [
      | inr q ↦ absurd (not_confirmed a r.next_client owner f q y)
      | inl n ↦ o.one_confirmed owner e f m n x y
    ]
  ];
  given = λ e h. o.given e (session_stays leaving r.sessions e h).0;
  at_home = λ e h.
      let stay = session_stays leaving r.sessions e h in
      let home = o.at_home e stay.0 in
      let old = o.numbered (e.1.client, home.0) (lookup_in e.1.client r.clients home.0 home.1) in (
        home.0,
        found_kept e.1.client (λ e. e.0 == r.next_client || stays leaving a.owner e) (insert_entry nat_cmp r.clients r.next_client (new_client r.next_client a)) home.0
            (found_insert e.1.client r.next_client r.clients (new_client r.next_client a) (below_is_apart e.1.client r.next_client old.1) ∙ home.1)
            (both (not (is_unconfirmed_of a.owner home.0)) (not (goes leaving e.1.client)) (e.1.client == r.next_client) (confirmed_stays (pointwise nat_eq home.0.owner a.owner) home.0.confirmed home.2) stay.1),
        home.2,
      );
  within = λ e h. o.within e (session_stays leaving r.sessions e h).0;
  formed = λ e h. elim (was_or_new leaving r a e h) [ inl m ↦ o.formed e m | inr q ↦ ap (λ (e : ℕ × Client). has_form e.1) q ∙ new_form r.next_client a short ];
  few_clients =
      one_more _ _ r.limits.clients (length_added (stays leaving a.owner) r.clients r.next_client (new_client r.next_client a) (λ e h. (o.numbered e h).1))
      (leb-false r.limits.clients (length (filter (stays leaving a.owner) r.clients)) (or_false (nat_le r.limits.clients (length (filter (stays leaving a.owner) r.clients))) (nat_le END r.next_client) room).0);
  few_sessions = at_most _ _ _ (length_stays leaving r.sessions) o.few_sessions;
  clients_end = next_fits r.next_client END (leb-false END r.next_client (or_false (nat_le r.limits.clients (length (filter (stays leaving a.owner) r.clients))) (nat_le END r.next_client) room).1);
  sessions_end = o.sessions_end;
}

-- a record is created if there is room

new_if : (b : Bool) (other goes : Option ℕ) → (if b then decisions.Refuses statuses.NoSpc else decisions.Makes other) ≡ decisions.Makes goes → (other ≡ goes) × (b ≡ false)
new_if true other goes h = cc
new_if false other goes h = let same : other ≡ goes = cc in (same, refl)

new_room : (other leaving : Option ℕ) (r : Registry) (a : Exchanging) → decision_for_new other r a ≡ decisions.Makes leaving → is_full leaving r a ≡ false
new_room other leaving r a h = let n = new_if (is_full other r a) other leaving h in subst (λ (g : Option ℕ). is_full g r a ≡ false) n.0 n.1

decision_has_room : (t u v : Bool) (confirmed_answer : Exchanged) (n : ℕ) (leaving : Option ℕ) (r : Registry) (a : Exchanging) →
    (if t then (if u then decisions.Knows confirmed_answer else decision_for_new None r a) else if v then decisions.Refuses statuses.ClidInUse else decision_for_new (Some n) r a) ≡ decisions.Makes leaving → is_full leaving r a ≡ false
decision_has_room true true v confirmed_answer n leaving r a h = cc
decision_has_room true false v confirmed_answer n leaving r a h = new_room None leaving r a h
decision_has_room false u true confirmed_answer n leaving r a h = cc
decision_has_room false u false confirmed_answer n leaving r a h = new_room (Some n) leaving r a h

found_room : (found : Option Client) (leaving : Option ℕ) (r : Registry) (a : Exchanging) → decision_by_confirmed found r a ≡ decisions.Makes leaving → is_full leaving r a ≡ false
found_room None leaving r a h = new_room None leaving r a h
found_room (Some c) leaving r a h = decision_has_room (c.uid == a.uid) (c.verifier == a.verifier) a.has_opens (confirmed_answer c) c.number leaving r a h

decision_room : (fault : Option Status) (leaving : Option ℕ) (r : Registry) (a : Exchanging) → decision_unless fault r a ≡ decisions.Makes leaving → is_full leaving r a ≡ false
decision_room (Some status) leaving r a h = cc
decision_room None leaving r a h = found_room (confirmed_entry r a.owner) leaving r a h

exchanged_by : (s : ExchangeDecision) (r new : Registry) (a : Exchanging) (result : Result Exchanged Status) → length a.owner ≤ MOST_OWNER → exchange_decision r a ≡ s → ExchangesBy s r a result new → IsOrderly r → IsOrderly new
exchanged_by (decisions.Refuses status) r new a result short is h o = subst IsOrderly (sym h.1) o
exchanged_by (decisions.Knows confirmed_answer) r new a result short is h o = subst IsOrderly (sym h.1) (known_orderly r a.owner o)
exchanged_by (decisions.Makes leaving) r new a result short is h o =
    elim h [
      | inl made ↦ subst IsOrderly (sym made.1) (made_orderly leaving r a short (decision_room (flags_fault a.flags) leaving r a is) o)
      | inr delayed ↦ subst IsOrderly (sym delayed.1) o
    ]

pub exchanges_orderly : (r new : Registry) (a : Exchanging) (result : Result Exchanged Status) → length a.owner ≤ MOST_OWNER → Exchanges r a result new → IsOrderly r → IsOrderly new
exchanges_orderly r new a result short h o = exchanged_by (exchange_decision r a) r new a result short refl h o

-- ---- CREATE_SESSION

-- a record that stays
record_stays : (leaving : Option ℕ) (clients : List (ℕ × Client)) (e : ℕ × Client) → IsIn e (without_record leaving clients) → IsIn e clients × (not (goes leaving e.0) ≡ true)
record_stays None clients e h = (h, refl)
record_stays (Some client) clients e h = in_filter (λ e. not (e.0 == client)) clients e h

-- a record that stays is found
record_found : (leaving : Option ℕ) (clients : List (ℕ × Client)) (k : ℕ) (c : Client) → lookup (is_at (nat_cmp k)) clients ≡ Some c → not (goes leaving k) ≡ true → lookup (is_at (nat_cmp k)) (without_record leaving clients) ≡ Some c
record_found None clients k c is_c stays = is_c
record_found (Some client) clients k c is_c stays = found_kept k (λ e. not (e.0 == client)) clients c is_c stays

is_other_than : (b : Bool) (n m : ℕ) → b ≡ true → (m == n) ≡ false → (b && not (m == n)) ≡ true
is_other_than true n m h t = grind (arith, t)
is_other_than false n m h t = cc

is_first : (b c : Bool) → (b && c) ≡ true → b ≡ true
is_first true c h = refl
is_first false c h = cc

no_clash : (m n k : ℕ) → m ≡ k → n ≡ k → not (m == n) ≡ true → ⊥
no_clash m n k h i j = grind (arith, h, i, j)

length_records : (leaving : Option ℕ) (clients : List (ℕ × Client)) → length (without_record leaving clients) ≤ length clients
length_records None clients = omega arith
length_records (Some client) clients = length_filter (λ e. not (e.0 == client)) clients

-- when its owner's other confirmed record is removed, a record is the only confirmed one
alone_if : (r : Registry) (owner : List ℕ) (n : ℕ) (g : ℕ × Client) (found : Option Client) → IsOrderly r → IsIn g r.clients → is_confirmed_of owner g.1 ≡ true → (g.1.number == n) ≡ false →
    find (is_other owner n) (values_of r.clients) ≡ found → not (goes (option_map (λ c. c.number) found) g.0) ≡ true → ⊥
alone_if r owner n g None o m is t e stays =
    let passes : is_other owner n g.1 ≡ true = is_other_than (is_confirmed_of owner g.1) n g.1.number is t in
    let none : is_other owner n g.1 ≡ false = none_passes (is_other owner n) r.clients g e m in
    let clash : true ≡ false = sym passes ∙ none in cc
alone_if r owner n g (Some w) o m is t e stays =
    let entry = found_entry (is_other owner n) r.clients w e in
    let whose : is_confirmed_of owner w ≡ true = is_first (is_confirmed_of owner w) (not (w.number == n)) (found_passes (is_other owner n) (values_of r.clients) w e) in
    no_clash g.0 w.number entry.0 (o.one_confirmed owner g (entry.0, w) m entry.1 is whose) (o.numbered (entry.0, w) entry.1).0 stays

alone_by : (r : Registry) (owner : List ℕ) (n : ℕ) (g : ℕ × Client) (b : Bool) → (g.1.number == n) ≡ b → IsOrderly r → IsIn g r.clients → is_confirmed_of owner g.1 ≡ true → not (goes (other_record owner n r.clients) g.0) ≡ true → g.0 ≡ n
alone_by r owner n g true t o m is stays = let same : g.1.number ≡ n = grind (arith, t) in sym (o.numbered g m).0 ∙ same
alone_by r owner n g false t o m is stays = absurd (alone_if r owner n g (find (is_other owner n) (values_of r.clients)) o m is t refl stays)

-- the record that CREATE_SESSION confirms
abbrev confirms : Registry → Create → Client → Client
confirms r a c = record (accepts a (Ok (created_of r a)) c) { confirmed = true }

at_least : (m n k : ℕ) → nat_lt m n ≡ false → n ≤ k → n ≤ min m k
at_least m n k h i = grind (arith, h, i)

at_most_one_of : (m n : ℕ) → 1 ≤ n → max 1 (min m n) ≤ n
at_most_one_of m n h = omega arith

granted_within : (asked : Channel) → nat_lt asked.reply_size LEAST_REPLY ≡ false → IsWithin (granted asked)
granted_within asked enough = record {
  requests = omega arith;
  least = at_least asked.reply_size LEAST_REPLY MOST_BYTES enough (lit≤ tt);
  replies = omega arith;
  operations = at_most_one_of asked.operations MOST_OPERATIONS (lit≤ tt);
  slots = at_most_one_of asked.slots MOST_SLOTS (lit≤ tt);
}

-- there is no room for another session
abbrev has_no_place : Registry → Bool
has_no_place r = nat_le r.limits.sessions (length r.sessions) || nat_le END r.next_session

created_orderly : (r : Registry) (a : Create) (c : Client) → client_at r a.client ≡ Some c → has_no_place r ≡ false → nat_lt a.fore.reply_size LEAST_REPLY ≡ false → IsOrderly r → IsOrderly (with_creation r a (other_record c.owner a.client r.clients))
created_orderly r a c is_c room enough o =
    let other : Option ℕ = other_record c.owner a.client r.clients in
    let clients : List (ℕ × Client) = without_record other r.clients in
    let f : Client → Client = confirms r a in
    let here : lookup (is_at (nat_cmp a.client)) clients ≡ Some c = still_there r a c (find (is_other c.owner a.client) (values_of r.clients)) is_c refl in
    let same : (x : Client) → lookup (is_at (nat_cmp a.client)) clients ≡ Some x → c ≡ x = λ x h. let e : Some c ≡ Some x = sym here ∙ h in cc in
    let added : List (ℕ × Session) = insert_entry nat_cmp r.sessions r.next_session (new_session a.client (granted a.fore)) in
    let only : (owner : List ℕ) (g : ℕ × Client) (x : Client) → IsIn g clients → is_confirmed_of owner g.1 ≡ true → lookup (is_at (nat_cmp a.client)) clients ≡ Some x → is_confirmed_of owner (f x) ≡ true → g.0 ≡ a.client =
    λ owner g x m is found whose.
    let mine : c.owner ≡ owner = ap (λ (c : Client). c.owner) (same x found) ∙ same_text x.owner owner (sym whose) in
    let stay = record_stays other r.clients g m in
    alone_by r c.owner a.client g (g.1.number == a.client) refl o stay.0 (subst (λ (w : List ℕ). is_confirmed_of w g.1 ≡ true) (sym mine) is) stay.1 in
    record {
      numbered = λ e h. elim (in_changed a.client f clients e h) [
        | inl m ↦ o.numbered e (record_stays other r.clients e m).0
        | inr x ↦ let old = o.numbered (a.client, x.0) (record_stays other r.clients (a.client, x.0) (lookup_in a.client clients x.0 x.1)).0 in (
          ap (λ (e : ℕ × Client). e.1.number) x.2 ∙ old.0 ∙ sym (ap (λ (e : ℕ × Client). e.0) x.2),
          subst (λ (k : ℕ). k < r.next_client) (sym (ap (λ (e : ℕ × Client). e.0) x.2)) old.1,
        )
      ];
      one_confirmed = λ owner e g h k p q. elim (in_changed a.client f clients e h) [
        | inl m ↦ elim (in_changed a.client f clients g k) [
          | inl n ↦ o.one_confirmed owner e g (record_stays other r.clients e m).0 (record_stays other r.clients g n).0 p q
          | inr y ↦ only owner e y.0 m p y.1 (sym (ap (λ (e : ℕ × Client). is_confirmed_of owner e.1) y.2) ∙ q) ∙ sym (ap (λ (e : ℕ × Client). e.0) y.2)
        ]
        | inr x ↦ elim (in_changed a.client f clients g k) [
          | inl n ↦ ap (λ (e : ℕ × Client). e.0) x.2 ∙ sym (only owner g x.0 n q x.1 (sym (ap (λ (e : ℕ × Client). is_confirmed_of owner e.1) x.2) ∙ p))
          | inr y ↦ ap (λ (e : ℕ × Client). e.0) x.2 ∙ sym (ap (λ (e : ℕ × Client). e.0) y.2)
        ]
      ];
      given = λ e h. elim (in_insert r.sessions r.next_session (new_session a.client (granted a.fore)) e (session_stays other added e h).0) [
        | inl m ↦ below_next e.0 r.next_session (o.given e m)
        | inr q ↦ subst (λ (k : ℕ). k < r.next_session + 1) (sym (ap (λ (e : ℕ × Session). e.0) q)) (just_below r.next_session)
      ];
      at_home = λ e h. elim (in_insert r.sessions r.next_session (new_session a.client (granted a.fore)) e (session_stays other added e h).0) [
        | inl m ↦ let home = o.at_home e m in
            home_if clients a.client e.1.client f (a.client == e.1.client) (λ c h. refl) refl home.0 (record_found other r.clients e.1.client home.0 home.1 (session_stays other added e h).1) home.2
        | inr q ↦ (
          f c,
          ap (λ (k : ℕ). lookup (is_at (nat_cmp k)) (changed_client a.client f clients)) (ap (λ (e : ℕ × Session). e.1.client) q) ∙ lookup_changed (is_at (nat_cmp a.client)) clients f c here,
          refl,
        )
      ];
      within = λ e h. elim (in_insert r.sessions r.next_session (new_session a.client (granted a.fore)) e (session_stays other added e h).0) [
        | inl m ↦ o.within e m
        | inr q ↦ subst IsWithin (sym (ap (λ (e : ℕ × Session). e.1.granted) q)) (granted_within a.fore enough)
      ];
      formed = λ e h. elim (in_changed a.client f clients e h) [
        | inl m ↦ o.formed e (record_stays other r.clients e m).0
        | inr x ↦ ap (λ (e : ℕ × Client). has_form e.1) x.2 ∙ accepted_form x.0 a (Ok (created_of r a)) refl (o.formed (a.client, x.0) (record_stays other r.clients (a.client, x.0) (lookup_in a.client clients x.0 x.1)).0)
      ];
      few_clients = subst (λ (k : ℕ). k ≤ r.limits.clients) (sym (length_changed (is_at (nat_cmp a.client)) f clients (lookup (is_at (nat_cmp a.client)) clients))) (at_most _ _ _ (length_records other r.clients) o.few_clients);
      few_sessions =
          at_most _ _ _ (length_stays other added) (at_most _ _ _ (length_insert r.sessions r.next_session (new_session a.client (granted a.fore)))
          (next_fits (length r.sessions) r.limits.sessions (leb-false r.limits.sessions (length r.sessions) (or_false (nat_le r.limits.sessions (length r.sessions)) (nat_le END r.next_session) room).0)));
      clients_end = o.clients_end;
      sessions_end = next_fits r.next_session END (leb-false END r.next_session (or_false (nat_le r.limits.sessions (length r.sessions)) (nat_le END r.next_session) room).1);
    }

room_if : (t u v : Bool) (i j k : Status) → (if t then Some i else if u then Some j else if v then Some k else None) ≡ None → v ≡ false
room_if true u v i j k h = cc
room_if false true v i j k h = cc
room_if false false true i j k h = cc
room_if false false false i j k h = refl

enough_if : (t u v : Bool) (i j k : Status) → (if t then Some i else if u then Some j else if v then Some k else None) ≡ None → u ≡ false
enough_if true u v i j k h = cc
enough_if false true v i j k h = cc
enough_if false false v i j k h = refl

has_enough : (c : Client) (r : Registry) (a : Create) → creation_fault c r a ≡ None → nat_lt a.fore.reply_size LEAST_REPLY ≡ false
has_enough c r a h = enough_if (not c.confirmed && not (c.uid == a.uid)) (nat_lt a.fore.reply_size LEAST_REPLY) (has_no_place r) statuses.ClidInUse statuses.TooSmall statuses.NoSpc h

has_room : (c : Client) (r : Registry) (a : Create) → creation_fault c r a ≡ None → has_no_place r ≡ false
has_room c r a h = room_if (not c.confirmed && not (c.uid == a.uid)) (nat_lt a.fore.reply_size LEAST_REPLY) (has_no_place r) statuses.ClidInUse statuses.TooSmall statuses.NoSpc h

cached_if_refused : (t u v : Bool) (status : Status) → (if t then Some statuses.ClidInUse else if u then Some statuses.TooSmall else if v then Some statuses.NoSpc else None) ≡ Some status → is_cached_refusal status ≡ true
cached_if_refused true u v status h = let is : statuses.ClidInUse ≡ status = cc in ap is_cached_refusal (sym is)
cached_if_refused false true v status h = let is : statuses.TooSmall ≡ status = cc in ap is_cached_refusal (sym is)
cached_if_refused false false true status h = let is : statuses.NoSpc ≡ status = cc in ap is_cached_refusal (sym is)
cached_if_refused false false false status h = cc

refusal_is_cached : (c : Client) (r : Registry) (a : Create) (status : Status) → creation_fault c r a ≡ Some status → is_cached_refusal status ≡ true
refusal_is_cached c r a status h = cached_if_refused (not c.confirmed && not (c.uid == a.uid)) (nat_lt a.fore.reply_size LEAST_REPLY) (has_no_place r) status h

created_due : (fault : Option Status) (r new : Registry) (a : Create) (made : Made) (c : Client) → client_at r a.client ≡ Some c → creation_fault c r a ≡ fault → CreatesBy (judged_due fault c r a) r a made new → IsOrderly r → IsOrderly new
created_due (Some status) r new a made c is_c is_fault h o = subst IsOrderly (sym h.1) (with_refusal_orderly r a status (refusal_is_cached c r a status is_fault) o)
created_due None r new a made c is_c is_fault h o =
    elim h [ inl made ↦ subst IsOrderly (sym made.1) (created_orderly r a c is_c (has_room c r a is_fault) (has_enough c r a is_fault) o) | inr delayed ↦ subst IsOrderly (sym delayed.1) o ]

created_if : (b : Bool) (r new : Registry) (a : Create) (made : Made) (c : Client) → client_at r a.client ≡ Some c →
    CreatesBy (if b then judged_due (creation_fault c r a) c r a else judgements.Answers (refusing statuses.SeqMisordered)) r a made new → IsOrderly r → IsOrderly new
created_if true r new a made c is_c h o = created_due (creation_fault c r a) r new a made c is_c refl h o
created_if false r new a made c is_c h o = subst IsOrderly (sym h.1) o

created_unless : (kept : Option (Result Created Status)) (r new : Registry) (a : Create) (made : Made) (c : Client) → client_at r a.client ≡ Some c → CreatesBy (judged_unless kept c r a) r a made new → IsOrderly r → IsOrderly new
created_unless (Some result) r new a made c is_c h o = subst IsOrderly (sym h.1) o
created_unless None r new a made c is_c h o = created_if (a.sequence == due (last_number number_of c.created)) r new a made c is_c h o

created_for : (found : Option Client) (r new : Registry) (a : Create) (made : Made) → client_at r a.client ≡ found → CreatesBy (judged_for found r a) r a made new → IsOrderly r → IsOrderly new
created_for None r new a made is h o = subst IsOrderly (sym h.1) o
created_for (Some c) r new a made is h o = created_unless (cached_result c.created a.sequence) r new a made c is h o

pub creates_orderly : (r new : Registry) (a : Create) (made : Made) → Creates r a made new → IsOrderly r → IsOrderly new
creates_orderly r new a made h o = created_for (client_at r a.client) r new a made refl h o

-- ---- results that are cached

few_results : (n : ℕ) → n ≤ MOST_BYTES → n - 24 ≤ MOST_RESULTS
few_results n h = omega (arith, h)

cached_if : (r : Registry) (session : ℕ) (o : Option Session) → IsOrderly r → session_at r session ≡ o → most_cached o ≤ MOST_RESULTS
cached_if r session None orderly is = lit≤ tt
cached_if r session (Some s) orderly is = few_results s.granted.reply_size (orderly.within (session, s) (lookup_in session r.sessions s is)).replies

pub most_kept_few : (r : Registry) (session : ℕ) → IsOrderly r → most_cached (session_at r session) ≤ MOST_RESULTS
most_kept_few r session orderly = cached_if r session (session_at r session) orderly refl

few_of : (m n k : ℕ) → m ≤ n → n ≤ k → m ≤ k
few_of m n k a b = omega (arith, a, b)

pub kept_are_few : (r : Registry) (session n : ℕ) → IsOrderly r → n ≤ most_cached (session_at r session) → n ≤ MOST_RESULTS
kept_are_few r session n orderly few = few_of n (most_cached (session_at r session)) MOST_RESULTS few (most_kept_few r session orderly)
