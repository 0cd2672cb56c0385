-- EXCHANGE_ID, CREATE_SESSION and the calls that destroy, over sessions that cover others: they have the same result,
-- and leave sessions that cover. A call that isn't logged changes nothing.
use Rattle.std.proofs.Common.{◌≡◌, ℕ, Bool, true, false, not, ◌==◌, ◌&&◌, ◌||◌, if◌then◌else◌, nat_lt, nat_le, List, refl, sym, ap, subst, ◌∙◌, inl, inr}
use Rattle.std.specs.Prelude.{Option, Some, None, Result, Ok, Err}
use Rattle.std.specs.BTreeMap.{insert_entry, is_at}
use Rattle.std.specs.Map.{remove_entry}
use Rattle.std.specs.Ordering.{nat_cmp}
use Rattle.nfs_types.specs.declared.status.Status.{Status}
use Rattle.nfs_types.specs.declared.status.Status.TheVariants as statuses
use Rattle.session_slots.specs.declared.client.Created.{Created}
use Rattle.session_slots.specs.declared.creating.Create.{Create}
use Rattle.session_slots.specs.declared.creating.Made.{Made}
use Rattle.session_slots.specs.declared.creating.Judged.{Judged}
use Rattle.session_slots.specs.declared.creating.Judged.TheVariants.{Answers, Refuses as RefusesSession, Makes as MakesOne}
use Rattle.session_slots.specs.declared.exchanging.Exchanged.{Exchanged}
use Rattle.session_slots.specs.declared.exchanging.ExchangeDecision.{ExchangeDecision}
use Rattle.session_slots.specs.declared.exchanging.ExchangeDecision.TheVariants.{Refuses, Knows, Makes}
use Rattle.session_slots.specs.Counting.{due, last_number}
use Rattle.session_slots.specs.Covering.{SessionsCover}
use Rattle.session_slots.specs.Orderly.{is_cached_refusal}
use Rattle.session_slots.specs.Limits.{LEAST_REPLY, END}
use Rattle.session_slots.specs.Registry.{Client, Session, Registry, client_at, session_at, confirmed_entry, new_session, without_sessions}
use Rattle.session_slots.specs.Exchanging.{Exchanging, Exchanges, ExchangesBy, flags_fault, exchange_decision, decision_by_confirmed, decision_unless}
use Rattle.session_slots.specs.Creating.{Creates, CreatesBy, creation_fault, granted, judged, judged_due, judged_for, judged_unless, number_of, refusing, cached_result}
use Rattle.session_slots.specs.Destroying.{no_session, destroy_session_refusal, destroy_client_refusal, busy_unless_none, without_session}
use Rattle.session_slots.proofs.Covering.{SessionFound, session_found, same_length, same_any, without_covers, removed_covers, inserted_covers, new_covers}

-- clients with other sessions
abbrev pub beside : List (ℕ × Session) → Registry → Registry
beside sessions r = record r { sessions = sessions }

-- ---- EXCHANGE_ID

decision_over : (sessions : List (ℕ × Session)) (r : Registry) (a : Exchanging) → exchange_decision (beside sessions r) a ≡ exchange_decision r a
decision_over sessions r a = of (flags_fault a.flags)
  where
    rest : (o : Option Client) → decision_by_confirmed o (beside sessions r) a ≡ decision_by_confirmed o r a
    rest None = refl
    rest (Some c) = refl

    of : (f : Option Status) → decision_unless f (beside sessions r) a ≡ decision_unless f r a
    of (Some status) = refl
    of None = rest (confirmed_entry r a.owner)

abbrev ExchangesOver : ExchangeDecision → List (ℕ × Session) → Registry → Exchanging → Result Exchanged Status → Registry → Type 0
ExchangesOver s sessions old a given new =
    (after : List (ℕ × Session)) × ExchangesBy s (beside sessions old) a given (beside after new) × SessionsCover after new.sessions

-- the sessions don't change
stays_over : (sessions : List (ℕ × Session)) (old new : Registry) → SessionsCover sessions old.sessions → new.sessions ≡ old.sessions → SessionsCover sessions new.sessions
stays_over sessions old new c is = subst (λ ss. SessionsCover sessions ss) (sym is) c

exchanges_over : (s : ExchangeDecision) (sessions : List (ℕ × Session)) (old : Registry) (a : Exchanging) (given : Result Exchanged Status) (new : Registry)
    → SessionsCover sessions old.sessions → ExchangesBy s old a given new → ExchangesOver s sessions old a given new
exchanges_over (Refuses status) sessions old a given new c e = (sessions, (e.0, ap (beside sessions) e.1), stays_over sessions old new c (ap (λ (r : Registry). r.sessions) e.1))
exchanges_over (Knows known) sessions old a given new c e = (sessions, (e.0, ap (beside sessions) e.1), stays_over sessions old new c (ap (λ (r : Registry). r.sessions) e.1))
exchanges_over (Makes removed) sessions old a given new c (inl e) =
    let after = without_sessions removed sessions in
    (after, inl (e.0, ap (beside after) e.1), subst (λ ss. SessionsCover after ss) (sym (ap (λ (r : Registry). r.sessions) e.1)) (without_covers removed sessions old.sessions c))
exchanges_over (Makes removed) sessions old a given new c (inr e) =
    (sessions, inr (e.0, ap (beside sessions) e.1), stays_over sessions old new c (ap (λ (r : Registry). r.sessions) e.1))

pub exchange_over : (sessions : List (ℕ × Session)) (old : Registry) (a : Exchanging) (given : Result Exchanged Status) (new : Registry)
    → SessionsCover sessions old.sessions → Exchanges old a given new
    → (after : List (ℕ × Session)) × Exchanges (beside sessions old) a given (beside after new) × SessionsCover after new.sessions
exchange_over sessions old a given new c e =
    let over = exchanges_over (exchange_decision old a) sessions old a given new c e in
    (over.0, subst (λ s. ExchangesBy s (beside sessions old) a given (beside over.0 new)) (sym (decision_over sessions old a)) over.1, over.2)

-- ---- CREATE_SESSION

-- by the number of sessions
abbrev fault_of : ℕ → Client → Registry → Create → Option Status
fault_of count c r a =
    if not c.confirmed && not (c.uid == a.uid) then Some statuses.ClidInUse
    else if nat_lt a.fore.reply_size LEAST_REPLY then Some statuses.TooSmall
    else if nat_le r.limits.sessions count || nat_le END r.next_session then Some statuses.NoSpc
    else None

judged_over : (sessions : List (ℕ × Session)) (r : Registry) (a : Create) → SessionsCover sessions r.sessions → judged (beside sessions r) a ≡ judged r a
judged_over sessions r a covers = of (client_at r a.client)
  where
    due_over : (f : Option Status) (c : Client) → judged_due f c (beside sessions r) a ≡ judged_due f c r a
    due_over (Some status) c = refl
    due_over None c = refl

    faults : (c : Client) → creation_fault c (beside sessions r) a ≡ creation_fault c r a
    faults c = ap (λ count. fault_of count c r a) (same_length sessions r.sessions covers)

    rest : (kept : Option (Result Created Status)) (c : Client) → judged_unless kept c (beside sessions r) a ≡ judged_unless kept c r a
    rest (Some kept) c = refl
    rest None c =
        ap (λ (j : Judged). if a.sequence == due (last_number number_of c.created) then j else Answers (refusing statuses.SeqMisordered))
        (due_over (creation_fault c (beside sessions r) a) c ∙ ap (λ f. judged_due f c r a) (faults c))

    of : (o : Option Client) → judged_for o (beside sessions r) a ≡ judged_for o r a
    of None = refl
    of (Some c) = rest (cached_result c.created a.sequence) c

abbrev CreatesOver : Judged → List (ℕ × Session) → Registry → Create → Made → Registry → Type 0
CreatesOver j sessions old a made new =
    (after : List (ℕ × Session)) × CreatesBy j (beside sessions old) a made (beside after new) × SessionsCover after new.sessions

creates_over : (j : Judged) (sessions : List (ℕ × Session)) (old : Registry) (a : Create) (made : Made) (new : Registry)
    → SessionsCover sessions old.sessions → CreatesBy j old a made new → CreatesOver j sessions old a made new
creates_over (Answers answer) sessions old a made new c e = (sessions, (e.0, ap (beside sessions) e.1), stays_over sessions old new c (ap (λ (r : Registry). r.sessions) e.1))
creates_over (RefusesSession status) sessions old a made new c e = (sessions, (e.0, ap (beside sessions) e.1), stays_over sessions old new c (ap (λ (r : Registry). r.sessions) e.1))
creates_over (MakesOne other) sessions old a made new c (inl e) =
    let made = new_session a.client (granted a.fore) in
    let after = without_sessions other (insert_entry nat_cmp sessions old.next_session made) in (
      after,
      inl (e.0, ap (beside after) e.1),
      subst (λ ss. SessionsCover after ss) (sym (ap (λ (r : Registry). r.sessions) e.1))
          (without_covers other (insert_entry nat_cmp sessions old.next_session made) (insert_entry nat_cmp old.sessions old.next_session made)
          (inserted_covers old.next_session made sessions old.sessions (new_covers a.client (granted a.fore)) c)),
    )
creates_over (MakesOne other) sessions old a made new c (inr e) =
    (sessions, inr (e.0, ap (beside sessions) e.1), stays_over sessions old new c (ap (λ (r : Registry). r.sessions) e.1))

pub create_over : (sessions : List (ℕ × Session)) (old : Registry) (a : Create) (made : Made) (new : Registry)
    → SessionsCover sessions old.sessions → Creates old a made new
    → (after : List (ℕ × Session)) × Creates (beside sessions old) a made (beside after new) × SessionsCover after new.sessions
create_over sessions old a made new c e =
    let over = creates_over (judged old a) sessions old a made new c e in
    (over.0, subst (λ j. CreatesBy j (beside sessions old) a made (beside over.0 new)) (sym (judged_over sessions old a c)) over.1, over.2)

-- ---- DESTROY_SESSION and DESTROY_CLIENTID

same_session_refusal : (x y : Option Session) → SessionFound x y → no_session x ≡ no_session y
same_session_refusal None None c = refl
same_session_refusal None (Some s) c = absurd c
same_session_refusal (Some q) None c = absurd c
same_session_refusal (Some q) (Some s) c = refl

pub session_refusal_over : (sessions : List (ℕ × Session)) (old : Registry) (session : ℕ) → SessionsCover sessions old.sessions
    → destroy_session_refusal (beside sessions old) session ≡ destroy_session_refusal old session
session_refusal_over sessions old session c = same_session_refusal _ _ (session_found (is_at (nat_cmp session)) sessions old.sessions c)

pub destroyed_covers : (sessions : List (ℕ × Session)) (old : Registry) (session : ℕ) → SessionsCover sessions old.sessions
    → SessionsCover (remove_entry (is_at (nat_cmp session)) sessions) (without_session old session).sessions
destroyed_covers sessions old session c = removed_covers (is_at (nat_cmp session)) sessions old.sessions c

pub client_refusal_over : (sessions : List (ℕ × Session)) (old : Registry) (client : ℕ) (has_opens : Bool) → SessionsCover sessions old.sessions
    → destroy_client_refusal (beside sessions old) client has_opens ≡ destroy_client_refusal old client has_opens
client_refusal_over sessions old client has_opens c = ap (busy_unless_none (client_at old client) has_opens) (same_any client sessions old.sessions c)

-- ---- calls that aren't logged

-- an EXCHANGE_ID that isn't OK changes nothing
pub exchange_stays : (old : Registry) (a : Exchanging) (given : Result Exchanged Status) (new : Registry) → Exchanges old a given new
    → ((known : Exchanged) → given ≡ Ok known → ⊥) → new ≡ old
exchange_stays old a given new e none = of (exchange_decision old a) e
  where
    of : (s : ExchangeDecision) → ExchangesBy s old a given new → new ≡ old
    of (Refuses status) e = e.1
    of (Knows known) e = absurd (none known e.0)
    of (Makes removed) (inl e) = absurd (none _ e.0)
    of (Makes removed) (inr e) = e.1

-- a refusal of CREATE_SESSION is cached only if it is one of these; and no client is removed with an answer
abbrev Cached : Judged → Type 0
Cached (Answers answer) = answer.removed ≡ None
Cached (RefusesSession status) = is_cached_refusal status ≡ true
Cached (MakesOne other) = Unit {0}

faults_cached : (a b c : Bool) (status : Status)
    → (if a then Some statuses.ClidInUse else if b then Some statuses.TooSmall else if c then Some statuses.NoSpc else None) ≡ Some status
    → is_cached_refusal status ≡ true
faults_cached true b c status is = let same : statuses.ClidInUse ≡ status = cc in subst (λ s. is_cached_refusal s ≡ true) same refl
faults_cached false true c status is = let same : statuses.TooSmall ≡ status = cc in subst (λ s. is_cached_refusal s ≡ true) same refl
faults_cached false false true status is = let same : statuses.NoSpc ≡ status = cc in subst (λ s. is_cached_refusal s ≡ true) same refl
faults_cached false false false status is = cc

due_cached : (f : Option Status) (c : Client) (r : Registry) (a : Create) → ((status : Status) → f ≡ Some status → is_cached_refusal status ≡ true) → Cached (judged_due f c r a)
due_cached (Some status) c r a each = each status refl
due_cached None c r a each = tt

due_or_not : (b : Bool) (j : Judged) → Cached j → Cached (if b then j else Answers (refusing statuses.SeqMisordered))
due_or_not true j cached = cached
due_or_not false j cached = refl

unless_cached : (kept : Option (Result Created Status)) (c : Client) (r : Registry) (a : Create) → Cached (judged_unless kept c r a)
unless_cached (Some kept) c r a = refl
unless_cached None c r a =
    due_or_not (a.sequence == due (last_number number_of c.created)) (judged_due (creation_fault c r a) c r a)
    (due_cached (creation_fault c r a) c r a (λ status is. faults_cached _ _ _ status is))

for_cached : (o : Option Client) (r : Registry) (a : Create) → Cached (judged_for o r a)
for_cached None r a = refl
for_cached (Some c) r a = unless_cached (cached_result c.created a.sequence) c r a

-- no client changes, and none is removed
abbrev pub Stays : Registry → Made → Registry → Type 0
Stays old made new = (new ≡ old) × (made.removed ≡ None)

create_stays_by : (j : Judged) → Cached j → (old : Registry) (a : Create) (made : Made) (new : Registry) → CreatesBy j old a made new
    → ((created : Created) → made.result ≡ Ok created → ⊥) → ((status : Status) → made.result ≡ Err status → is_cached_refusal status ≡ false) → Stays old made new
create_stays_by (Answers answer) cached old a made new e none refused = (e.1, ap (λ (m : Made). m.removed) e.0 ∙ cached)
create_stays_by (RefusesSession status) cached old a made new e none refused =
    let never : true ≡ false = sym cached ∙ refused status (ap (λ (m : Made). m.result) e.0) in cc
create_stays_by (MakesOne other) cached old a made new (inl e) none refused = absurd (none _ (ap (λ (m : Made). m.result) e.0))
create_stays_by (MakesOne other) cached old a made new (inr e) none refused = (e.1, ap (λ (m : Made). m.removed) e.0)

-- a CREATE_SESSION that is neither OK nor refused with a cached refusal changes nothing
pub create_stays : (old : Registry) (a : Create) (made : Made) (new : Registry) → Creates old a made new
    → ((created : Created) → made.result ≡ Ok created → ⊥) → ((status : Status) → made.result ≡ Err status → is_cached_refusal status ≡ false) → Stays old made new
create_stays old a made new e none refused = create_stays_by (judged old a) (for_cached (client_at old a.client) old a) old a made new e none refused
