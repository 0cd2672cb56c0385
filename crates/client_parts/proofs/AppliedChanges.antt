-- Changes that are read and applied, in order, transition to at most one state.
use Rattle.std.proofs.Common.{◌≡◌, ℕ, ◌-◌, ◌<◌, arith, zero, suc, ◌&&◌, Bool, true, false, not, nat_lt, is_some, is_none, length, List, refl, sym, ap, ◌∙◌, subst, inl, inr, Ok, Err}
use Rattle.std.specs.Prelude.{Result}
use Rattle.xdr_wire.specs.Xdr.{Value}
use Rattle.xdr_wire.specs.Reading.{read_at}
use Rattle.xdr_wire.specs.declared.fault.XdrFault.{XdrFault}
use Rattle.session_slots.specs.declared.session.Held.{Held}
use Rattle.session_slots.specs.Forms.{client, session, call}
use Rattle.session_slots.specs.Orderly.{has_form}
use Rattle.session_slots.specs.Registry.{Client, Registry, client_at, confirmed_entry}
use Rattle.session_slots.specs.Restoring.{record_fits, with_record, with_restored, with_cached}
use Rattle.session_slots.specs.Slots.{Cached}
use Rattle.session_slots.proofs.WrittenOnce.{one_client, one_session, one_call}
use Rattle.compound_run.specs.Realm.{Opened}
use Rattle.compound_run.specs.ClientState.{ClientState}
use Rattle.client_parts.specs.Forms.{change, prefix}
use Rattle.client_parts.specs.Applying.{Applies, AppliesRecord, AppliesSession, AppliesCall, AppliesOne, AppliesAll, AppliesChanges, with_registry}

abbrev value_in : {V : Type 0} → V → Result (V × List ℕ) XdrFault → V
value_in d (Ok p) = p.0
value_in d (Err e) = d

abbrev rest_in : {V : Type 0} → List ℕ → Result (V × List ℕ) XdrFault → List ℕ
rest_in d (Ok p) = p.1
rest_in d (Err e) = d

-- reading at one place gives one value and one rest
pub one_reading : {V : Type 0} (r : Result (V × List ℕ) XdrFault) (v w : V) (x y : List ℕ) → r ≡ Ok (v, x) → r ≡ Ok (w, y) → (v ≡ w) × (x ≡ y)
one_reading r v w x y a b = (ap (value_in v) (sym a ∙ b), ap (rest_in x) (sym a ∙ b))

-- ---- one change

last_of : (a b c d e : Bool) → (a && (b && (c && (d && e)))) ≡ true → e ≡ true
last_of true true true true e h = h
last_of true true true false e h = cc
last_of true true false d e h = cc
last_of true false c d e h = cc
last_of false b c d e h = cc

pub fits_form : (r : Registry) (c : Client) → record_fits r c ≡ true → has_form c ≡ true
fits_form r c h = last_of (nat_lt c.number r.next_client) (nat_lt (length r.clients) r.limits.clients) (is_none (client_at r c.number)) (not (c.confirmed && is_some (confirmed_entry r c.owner))) (has_form c) h

record_one : (old : ClientState) (v : Value client) (a b : ClientState) → AppliesRecord old v a → AppliesRecord old v b → a ≡ b
record_one old v a b r q =
    r.is ∙ ap (λ (c : Client). with_registry (with_record old.registry c) old)
    (one_client r.restored q.restored (fits_form old.registry r.restored r.fits) (fits_form old.registry q.restored q.fits) (sym r.written ∙ q.written)) ∙ sym q.is

session_one : (old : ClientState) (v : Value session) (a b : ClientState) → AppliesSession old v a → AppliesSession old v b → a ≡ b
session_one old v a b r q =
    let same = one_session r.number q.number r.held q.held (sym r.written ∙ q.written) in
    r.is ∙ ap (λ (n : ℕ). with_registry (with_restored old.registry n r.held) old) same.0 ∙ ap (λ (h : Held). with_registry (with_restored old.registry q.number h) old) same.1 ∙ sym q.is

call_one : (old : ClientState) (v : Value call) (a b : ClientState) → AppliesCall old v a → AppliesCall old v b → a ≡ b
call_one old v a b r q =
    let same = one_call r.at q.at r.slot q.slot r.kept q.kept (sym r.written ∙ q.written) in
    r.is ∙ ap (λ (n : ℕ). with_registry (with_cached old.registry n r.slot r.kept) old) same.0 ∙ ap (λ (n : ℕ). with_registry (with_cached old.registry q.at n r.kept) old) same.1
    ∙ ap (λ (k : Cached). with_registry (with_cached old.registry q.at q.slot k) old) same.2 ∙ sym q.is

applies_one : (old : ClientState) (v : Value change) (a b : ClientState) → Applies old v a → Applies old v b → a ≡ b
applies_one old (inl v) a b r q = r.1 ∙ sym q.1
applies_one old (inr (inl v)) a b r q = record_one old v a b r q
applies_one old (inr (inr (inl v))) a b r q = session_one old v a b r q
applies_one old (inr (inr (inr (inl v)))) a b r q = call_one old v a b r q
applies_one old (inr (inr (inr (inr (inl v))))) a b r q = r ∙ sym q
applies_one old (inr (inr (inr (inr (inr none))))) a b r q = absurd r

-- one change transitions to at most one state
pub one_applied : (old : ClientState) (bytes : List ℕ) (a b : ClientState) (x y : List ℕ) → AppliesOne old bytes a x → AppliesOne old bytes b y → (a ≡ b) × (x ≡ y)
one_applied old bytes a b x y r q =
    let same = one_reading (read_at change bytes) r.0 q.0 x y r.1 q.1 in
    (applies_one old q.0 a b (subst (λ (v : Value change). Applies old v a) same.0 r.2) q.2, same.1)

-- ---- all changes

pub all_applied : (n : ℕ) (old : ClientState) (bytes : List ℕ) (a b : ClientState) (x y : List ℕ) → AppliesAll n old bytes a x → AppliesAll n old bytes b y → (a ≡ b) × (x ≡ y)
all_applied zero old bytes a b x y r q = (r.0 ∙ sym q.0, r.1 ∙ sym q.1)
all_applied (suc n) old bytes a b x y (k, rest, one, more) (l, rest', one', more') =
    let same = one_applied old bytes k l rest rest' one one' in
    all_applied n l rest' a b x y (subst (λ (m : ClientState). AppliesAll n m rest' a x) same.0 (subst (λ (s : List ℕ). AppliesAll n k s a x) same.1 more)) more'

pub applies_uniquely : (old : ClientState) (bytes : List ℕ) (a b : ClientState) (x y : List ℕ) → AppliesChanges old bytes a x → AppliesChanges old bytes b y → (a ≡ b) × (x ≡ y)
applies_uniquely old bytes a b x y r q =
    let same = one_reading (read_at prefix bytes) (r.next_open, r.count) (q.next_open, q.count) r.after q.after r.read q.read in
    let open_is : r.next_open ≡ q.next_open = ap (λ (v : ℕ × ℕ). v.0) same.0 in
    let count_is : r.count ≡ q.count = ap (λ (v : ℕ × ℕ). v.1) same.0 in
    all_applied q.count (record old { next_open = q.next_open }) q.after a b x y
    (subst (λ (n : ℕ). AppliesAll n (record old { next_open = q.next_open }) q.after a x) count_is
    (subst (λ (s : List ℕ). AppliesAll r.count (record old { next_open = q.next_open }) s a x) same.1
    (subst (λ (n : ℕ). AppliesAll r.count (record old { next_open = n }) r.after a x) open_is r.extends))) q.extends

-- ---- what is left

-- the remaining changes of n transition to the state to which all n do
pub record IsPrefixOfChanges (n : ℕ) (old : ClientState) (bytes : List ℕ) (left : ℕ) (now : ClientState) (rest : List ℕ) : Type 0 where
  pub whole : (new : ClientState) (after : List ℕ) → AppliesAll left now rest new after → AppliesAll n old bytes new after
  pub back : (new : ClientState) (after : List ℕ) → AppliesAll n old bytes new after → AppliesAll left now rest new after

pub applying_begun : (n : ℕ) (old : ClientState) (bytes : List ℕ) → IsPrefixOfChanges n old bytes n old bytes
applying_begun n old bytes = record { whole = λ new after l. l; back = λ new after l. l }

onward : (left : ℕ) (now then : ClientState) (rest rest' : List ℕ) → AppliesOne now rest then rest' → (new : ClientState) (after : List ℕ) → AppliesAll (suc left) now rest new after → AppliesAll left then rest' new after
onward left now then rest rest' one new after (k, r, one', more) =
    let same = one_applied now rest k then r rest' one' one in
    subst (λ (m : ClientState). AppliesAll left m rest' new after) same.0 (subst (λ (s : List ℕ). AppliesAll left k s new after) same.1 more)

pub applying_more : (n : ℕ) (old : ClientState) (bytes : List ℕ) (left fewer : ℕ) (now then : ClientState) (rest rest' : List ℕ) → IsPrefixOfChanges n old bytes left now rest → left ≡ suc fewer → AppliesOne now rest then rest' → IsPrefixOfChanges n old bytes fewer then rest'
applying_more n old bytes left fewer now then rest rest' so_far is one = record {
  whole = λ new after l. so_far.whole new after (subst (λ (k : ℕ). AppliesAll k now rest new after) (sym is) (then, rest', one, l));
  back = λ new after l. onward fewer now then rest rest' one new after (subst (λ (k : ℕ). AppliesAll k now rest new after) is (so_far.back new after l));
}

pub applying_done : (n : ℕ) (old : ClientState) (bytes : List ℕ) (left : ℕ) (now : ClientState) (rest : List ℕ) → IsPrefixOfChanges n old bytes left now rest → left ≡ zero → AppliesAll n old bytes now rest
applying_done n old bytes left now rest so_far none = so_far.whole now rest (subst (λ (k : ℕ). AppliesAll k now rest now rest) (sym none) (refl, refl))

pub applying_not : (n : ℕ) (old : ClientState) (bytes : List ℕ) (left fewer : ℕ) (now : ClientState) (rest : List ℕ) → IsPrefixOfChanges n old bytes left now rest → left ≡ suc fewer → ((new : ClientState) (after : List ℕ) → AppliesOne now rest new after → ⊥) → (new : ClientState) (after : List ℕ) → AppliesAll n old bytes new after → ⊥
applying_not n old bytes left fewer now rest so_far is not new after l =
    let q : AppliesAll (suc fewer) now rest new after = subst (λ (k : ℕ). AppliesAll k now rest new after) is (so_far.back new after l) in
    not q.0 q.1 q.2

pub one_fewer : (n : ℕ) → 0 < n → n ≡ suc (n - 1)
one_fewer n h = omega (arith, h)

pub prefix_applies : (old : ClientState) (registry : Registry) (opens : List Opened) (was : ℕ) (is : record { registry = registry; opens = opens; next_open = was } ≡ old) (bytes : List ℕ) (v : ℕ × ℕ) (after : List ℕ) (new : ClientState) (rest : List ℕ)
    → read_at prefix bytes ≡ Ok (v, after) → AppliesAll v.1 (record { registry = registry; opens = opens; next_open = v.0 }) after new rest → AppliesChanges old bytes new rest
prefix_applies old registry opens was is bytes v after new rest read history =
    subst (λ (o : ClientState). AppliesChanges o bytes new rest) is (record { next_open = v.0; count = v.1; after = after; read = read; extends = history })
