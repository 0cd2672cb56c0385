-- The values that GETATTR returns, compared with the values as sent.
use Rattle.std.proofs.Common.{◌≡◌, ◌≢◌, ℕ, ◌+◌, ◌<◌, ◌≤◌, Bool, true, false, List, refl, sym, ap, ◌∙◌, subst, length, append-nil, arith}
use Rattle.std.specs.Prelude.{[], ◌∷◌, ◌++◌, ◌==◌, nat_eq, if◌then◌else◌, Result, Ok, Err, Some, OnOk, is_err}
use Rattle.std.specs.Cmp.Lexicographic.{pointwise, same_text}
use Rattle.xdr_wire.specs.Buffer.{Buffer, Puts}
use Rattle.xdr_wire.specs.Xdr.{Value, HasSpelling, spelling}
use Rattle.xdr_wire.specs.Reading.{Gives, Read, read_at}
use Rattle.xdr_wire.specs.Wire.{in_normal_form}
use Rattle.xdr_wire.specs.declared.fault.XdrFault.{XdrFault}
use Rattle.xdr_wire.proofs.Spelling.{again, spelled}
use Rattle.nfs_types.specs.Attributes.{all_words}
use Rattle.nfs_types.specs.Common.{common}
use Rattle.nfs_types.specs.Forms.{attributes, cons_trimmed, trimmed, trimmed_set}
use Rattle.nfs_types.specs.Given.{given_set}
use Rattle.nfs_types.specs.Views.{attributes_value}
use Rattle.nfs_types.specs.declared.attributes.Attributes.{Attributes}
use Rattle.nfs_ops.specs.Forms.{getattr_size}

-- ---- the number of words of the set of returned attributes

cons_trimmed_short : (w : ℕ) (ws : List ℕ) (n : ℕ) → length ws ≤ n → length (cons_trimmed w ws) ≤ 1 + n
cons_trimmed_short w [] n short = of (w == 0)
  where
    of : (b : Bool) → length (if b then [] else w ∷ []) ≤ 1 + n
    of true = omega arith
    of false = omega arith
cons_trimmed_short w (v ∷ ws) n short = omega (arith, short)

trimmed_short : (ws : List ℕ) → length (trimmed ws) ≤ length ws
trimmed_short [] = omega arith
trimmed_short (w ∷ ws) = let more = cons_trimmed_short w (trimmed ws) (length ws) (trimmed_short ws) in omega (arith, more)

common_short : (vs ws : List ℕ) → length (common vs ws) ≤ length ws
common_short [] ws = omega arith
common_short (v ∷ vs) [] = omega arith
common_short (v ∷ vs) (w ∷ ws) = let more = common_short vs ws in omega (arith, more)

pub set_short : (asked : List ℕ) → length (given_set asked) ≤ 3
set_short asked =
    let first = trimmed_short (common asked all_words) in
    let second = common_short asked all_words in
    omega (arith, first, second)

-- ---- values that don't fit differ from those that were sent

other_length : (values sent : List ℕ) → length values ≢ length sent → false ≡ pointwise nat_eq values sent
other_length values sent apart = of (pointwise nat_eq values sent) refl
  where
    of : (b : Bool) → pointwise nat_eq values sent ≡ b → false ≡ pointwise nat_eq values sent
    of true is = absurd (apart (ap length (same_text values sent (sym is))))
    of false is = sym is

full_is : {E : Type 0} (r : Result (Unit {0}) E) (before after : Buffer) (item : List ℕ) → is_err r ≡ true → Puts before after item r → before.room < length item
full_is (Ok done) before after item is puts = cc
full_is (Err e) before after item is puts = puts.0

pub too_long : {E : Type 0} (r : Result (Unit {0}) E) (before after : Buffer) (asked values sent : List ℕ) → is_err r ≡ true → before.room ≡ length sent + 32
    → 8 + length (spelling attributes (given_set asked, values)) ≡ getattr_size (length (given_set asked)) (length values)
    → Puts before after (spelling attributes (given_set asked, values)) r → false ≡ pointwise nat_eq values sent
too_long r before after asked values sent is room size puts =
    let full = full_is r before after (spelling attributes (given_set asked, values)) is puts in
    let few = set_short asked in
    other_length values sent (λ same. omega (arith, full, room, size, few, same))

-- ---- the values that are written are read back

-- the values that were written, if they fitted
pub on_ok : {E : Type 0} (r : Result (Unit {0}) E) (A : Type 0) → is_err r ≡ false → OnOk r A → A
on_ok (Ok done) A is h = h
on_ok (Err e) A is h = cc

pub written_is : {E : Type 0} (r : Result (Unit {0}) E) (before after : Buffer) (item : List ℕ) → is_err r ≡ false → before.bytes ≡ [] → Puts before after item r → after.bytes ≡ item
written_is (Ok done) before after item is empty puts = puts.appended ∙ ap (λ bytes. bytes ++ item) empty
written_is (Err e) before after item is empty puts = cc

read_is : (v : Value attributes) (old : List ℕ) → HasSpelling attributes v → trimmed_set v ≡ v → old ≡ spelling attributes v
    → in_normal_form (Some trimmed_set) (read_at attributes old) ≡ Ok (v, [])
read_is v old h normal is =
    ap (λ (bytes : List ℕ). in_normal_form (Some trimmed_set) (read_at attributes bytes)) (is ∙ sym (append-nil (spelling attributes v)))
    ∙ ap (in_normal_form (Some trimmed_set)) (again attributes v (spelling attributes v) [] (spelled attributes v h))
    ∙ ap (λ (x : Value attributes). Ok (x, [])) normal

ok_same : (x y : Value attributes × List ℕ) → ◌≡◌ {A = Read (Value attributes)} (Ok x) (Ok y) → x ≡ y
ok_same x y e = cc

ok_no_err : (x : Value attributes × List ℕ) (e : XdrFault) → ◌≡◌ {A = Read (Value attributes)} (Ok x) (Err e) → ⊥
ok_no_err x e h = cc

abbrev pub Reads : List ℕ → List ℕ → Result Attributes XdrFault → Type 0
Reads old new r = Gives attributes_value old new r (in_normal_form (Some trimmed_set) (read_at attributes old))

pub read_back : (v : Value attributes) (a : Attributes) (old new : List ℕ) (r : Result Attributes XdrFault) → HasSpelling attributes v → trimmed_set v ≡ v → old ≡ spelling attributes v
    → Reads old new r → r ≡ Ok a → attributes_value a ≡ v
read_back v a old new r h normal is gives ok =
    ap (λ (x : Value attributes × List ℕ). x.0) (ok_same (attributes_value a, new) (v, []) (sym (subst (Reads old new) ok gives) ∙ read_is v old h normal is))

pub is_read : (v : Value attributes) (e : XdrFault) (old new : List ℕ) (r : Result Attributes XdrFault) → HasSpelling attributes v → trimmed_set v ≡ v → old ≡ spelling attributes v
    → Reads old new r → r ≡ Err e → ⊥
is_read v e old new r h normal is gives err = ok_no_err (v, []) e (sym (read_is v old h normal is) ∙ (subst (Reads old new) err gives).0)
