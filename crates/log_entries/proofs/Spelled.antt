-- An entry that was read can be written, and its bytes are the written ones.
use Rattle.std.proofs.Common.{◌≡◌, ◌<◌, ◌+◌, ◌^◌, ◌∙◌, ℕ, ℤ, zero, suc, List, [], ◌∷◌, ◌++◌, length, Option, Some, None, refl, ap, subst, inl, inr, arith, lit<}
use Rattle.std.specs.Prelude.{FitsSigned, IfSome}
use Rattle.std.specs.Int.{w32, w64, from_be_bytes}
use Rattle.std.specs.List.{flat_map, AllByRecursion}
use Rattle.std.proofs.Math.Facts.{sfits_to_z, Fits-of_lt}
use Rattle.std.specs.Option.{option_map}
use Rattle.std.proofs.lemmas.Bool.{cases_lt}
use Rattle.std.proofs.lemmas.List.{get_or_append_left, get_or-append-add, get_or_past}
use Rattle.xdr_wire.specs.Xdr.{Value, uint, optional, Follows, IsNumber, IsInteger, Spells, HasSpelling, spelling, AreBytes}
use Rattle.xdr_wire.specs.Reading.{read_at}
use Rattle.xdr_wire.proofs.Spelling.{begins_from_read}
use Rattle.xdr_wire.proofs.Canonical.{spelling_is}
use Rattle.nfs_types.specs.Forms.{time}
use Rattle.nfs_types.specs.declared.moment.Moment.{Moment}
use Rattle.log_entries.specs.Forms.{bytes as text, call, entry}
use Rattle.log_entries.specs.Entries.{Entry, Call, ClientExpired, Loaded, IsEntry, call_with, entry_value, entry_bytes, entry_in, entry_at, then_others, entries_by, entries_in}
use Rattle.nfs_types.specs.MomentView.{moment_in}
use Rattle.nfs_types.proofs.Moments.{value_of_moment}
use Rattle.log_entries.proofs.Taking.{meant_by}

call_is : (v : Value call) (o : Option Moment) (e : Entry) → moment_in v.0 ≡ o → option_map Call (option_map (call_with v) o) ≡ Some e → (let w : Value entry = inl v in w) ≡ entry_value e
call_is v None e none is = absurd cc
call_is v (Some m) e some is =
    let same : Call (call_with v m) ≡ e = cc in
    ap (λ t. let w : Value entry = inl (t, v.1) in w) (value_of_moment v.0 m some) ∙ ap entry_value same

-- a value that represents an entry is the value of that entry
value_is : (v : Value entry) (e : Entry) → entry_in v ≡ Some e → v ≡ entry_value e
value_is (inl v) e is = call_is v (moment_in v.0) e refl is
value_is (inr (inl client)) e is = let same : ClientExpired client ≡ e = cc in ap entry_value same
value_is (inr (inr (inl v))) e is = let same : Loaded v ≡ e = cc in ap entry_value same
value_is (inr (inr (inr none))) e is = absurd none

bytes_prefix : (a b : List ℕ) → AreBytes (a ++ b) → AreBytes a
bytes_prefix a b h i =
    elim (cases_lt i (length a)) [
      | inl lt ↦ rw (← get_or_append_left a b 0 i lt) (h i)
      | inr le ↦ rw (get_or_past a i 0 le) (omega arith)
    ]

bytes_back : (a b : List ℕ) → AreBytes (a ++ b) → AreBytes b
bytes_back a b h i = rw (← get_or-append-add a b i 0) (h (length a + i))

-- ---- a value that was read has an encoding

uint_fits : (n : ℕ) (b : List ℕ) → AreBytes b → IsNumber w32 n b → n < 2 ^ 32
uint_fits n b h s =
    let bound : from_be_bytes w32 b < 2 ^ 32 = omega (arith, h 0, h 1, h 2, h 3) in
    subst (λ (k : ℕ). k < 2 ^ 32) s.value bound

eight_bytes_fit : (b : List ℕ) → AreBytes b → from_be_bytes w64 b < 2 ^ 64
eight_bytes_fit b h = omega (arith, h 0, h 1, h 2, h 3, h 4, h 5, h 6, h 7)

hyper_fits : (n : ℕ) (b : List ℕ) → AreBytes b → IsNumber w64 n b → n < 2 ^ 64
hyper_fits n b h s = subst (λ (k : ℕ). k < 2 ^ 64) s.value (eight_bytes_fit b h)

signed_fits : (z : ℤ) (b : List ℕ) → AreBytes b → IsInteger w64 z b → FitsSigned w64 z
signed_fits z b h s = subst (FitsSigned w64) s.value (sfits_to_z (Fits-of_lt (eight_bytes_fit b h)))

-- both parts of bytes are bytes
prefix_of : (P Q : List ℕ → Type 0) (b : List ℕ) → AreBytes b → (f : Follows P Q b) → AreBytes f.prefix
prefix_of P Q b h f = bytes_prefix f.prefix f.back (subst AreBytes f.joined h)

back_of : (P Q : List ℕ → Type 0) (b : List ℕ) → AreBytes b → (f : Follows P Q b) → AreBytes f.back
back_of P Q b h f = bytes_back f.prefix f.back (subst AreBytes f.joined h)

time_fits : (v : Value time) (b : List ℕ) → AreBytes b → Spells time v b → HasSpelling time v
time_fits v b h f = (signed_fits v.0 f.prefix (prefix_of _ _ b h f) f.first, uint_fits v.1 f.back (back_of _ _ b h f) f.second)

text_fits : (v : Value text) (b : List ℕ) → AreBytes b → Spells text v b → HasSpelling text v
text_fits v b h s = (s.0, uint_fits (length v) s.1.prefix (prefix_of _ _ b h s.1) s.1.first)

place_fits : (v : Option ℕ) (b : List ℕ) → AreBytes b → Spells (optional uint) v b → HasSpelling (optional uint) v
place_fits None b h s = tt
place_fits (Some n) b h f = uint_fits n f.back (back_of _ _ b h f) f.second

book_fits : (v : Option (List ℕ)) (b : List ℕ) → AreBytes b → Spells (optional text) v b → HasSpelling (optional text) v
book_fits None b h s = tt
book_fits (Some v) b h f = text_fits v f.back (back_of _ _ b h f) f.second

call_fits : (v : Value call) (b : List ℕ) → AreBytes b → Spells call v b → HasSpelling call v
call_fits v b h f =
    let rest = back_of _ _ b h f in
    let last = back_of _ _ f.back rest f.second in
    let g = f.second.second in (
      time_fits v.0 f.prefix (prefix_of _ _ b h f) f.first,
      (
        text_fits v.1.0 f.second.prefix (prefix_of _ _ f.back rest f.second) f.second.first,
        (
          place_fits v.1.1.0 g.prefix (prefix_of _ _ f.second.back last g) g.first,
          hyper_fits v.1.1.1 g.back (back_of _ _ f.second.back last g) g.second,
        ),
      ),
    )

entry_fits : (v : Value entry) (b : List ℕ) → AreBytes b → Spells entry v b → HasSpelling entry v
entry_fits (inl v) b h s = (lit< tt, (refl, call_fits v s.1.back (back_of _ _ b h s.1) s.1.second.1))
entry_fits (inr (inl client)) b h s = (lit< tt, (omega arith, (refl, hyper_fits client s.1.back (back_of _ _ b h s.1) s.1.second.1.1)))
entry_fits (inr (inr (inl v))) b h s = (lit< tt, (omega arith, (omega arith, (refl, book_fits v s.1.back (back_of _ _ b h s.1) s.1.second.1.1.1))))
entry_fits (inr (inr (inr none))) b h s = absurd none

place_bound : (place : Option ℕ) → HasSpelling (optional uint) place → IfSome place (λ n. n < 2 ^ 32)
place_bound None h = tt
place_bound (Some n) h = h

-- an entry whose value has an encoding can be written
can_be_written : (e : Entry) → HasSpelling entry (entry_value e) → IsEntry e
can_be_written (Call c) h = record { seconds = h.1.1.0.0; bytes = h.1.1.1.0.1; delayed = place_bound c.delayed h.1.1.1.1.0; checksum = h.1.1.1.1.1 }
can_be_written (ClientExpired client) h = h.1.1.1
can_be_written (Loaded None) h = tt
can_be_written (Loaded (Some v)) h = h.1.1.1.1.1

-- ---- one entry

pub one_spelling : (e : Entry) (bytes rest : List ℕ) → AreBytes bytes → entry_at bytes ≡ Some (e, rest) → bytes ≡ entry_bytes e ++ rest
unfolding entry_at entry_bytes
one_spelling e bytes rest are is =
    let m = meant_by entry_in (read_at entry bytes) e rest is in
    let b = begins_from_read entry m.value bytes rest m.read in
    let prefix : AreBytes b.prefix = bytes_prefix b.prefix rest (subst AreBytes b.parts are) in
    let same : b.prefix ≡ spelling entry (entry_value e) = spelling_is entry m.value b.prefix prefix b.spelled ∙ ap (spelling entry) (value_is m.value e m.means) in
    b.parts ∙ ap (λ (f : List ℕ). f ++ rest) same

pub read_fits : (e : Entry) (bytes rest : List ℕ) → AreBytes bytes → entry_at bytes ≡ Some (e, rest) → IsEntry e
unfolding entry_at
read_fits e bytes rest are is =
    let m = meant_by entry_in (read_at entry bytes) e rest is in
    let b = begins_from_read entry m.value bytes rest m.read in
    let prefix : AreBytes b.prefix = bytes_prefix b.prefix rest (subst AreBytes b.parts are) in
    can_be_written e (subst (HasSpelling entry) (value_is m.value e m.means) (entry_fits m.value b.prefix prefix b.spelled))

-- ---- all entries of a record

-- entries that can be written, and whose encoding these bytes are
pub record AreSpelled (bytes : List ℕ) (es : List Entry) : Type 0 where
  pub bytes_are : bytes ≡ flat_map entry_bytes es
  pub fit : AllByRecursion IsEntry es

one_more : (e : Entry) (bytes rest : List ℕ) (es : List Entry) → AreBytes bytes → entry_at bytes ≡ Some (e, rest) → AreSpelled rest es → AreSpelled bytes (e ∷ es)
one_more e bytes rest es are is others = record {
  bytes_are = one_spelling e bytes rest are is ∙ ap (λ (r : List ℕ). entry_bytes e ++ r) others.bytes_are;
  fit = (read_fits e bytes rest are is, others.fit);
}

others_spelled : (e : Entry) (bytes rest : List ℕ) (o : Option (List Entry)) (es : List Entry) → AreBytes bytes → entry_at bytes ≡ Some (e, rest) → ((fs : List Entry) → o ≡ Some fs → AreSpelled rest fs) → option_map (λ fs. e ∷ fs) o ≡ Some es → AreSpelled bytes es
others_spelled e bytes rest None es are is others all = absurd cc
others_spelled e bytes rest (Some fs) es are is others all =
    let same : e ∷ fs ≡ es = cc in subst (AreSpelled bytes) same (one_more e bytes rest fs are is (others fs refl))

then_spelled : (n : ℕ) (bytes : List ℕ) (o : Option (Entry × List ℕ)) (es : List Entry) → AreBytes bytes → entry_at bytes ≡ o → ((rest : List ℕ) (fs : List Entry) → AreBytes rest → entries_by n rest ≡ Some fs → AreSpelled rest fs) → then_others (entries_by n) o ≡ Some es → AreSpelled bytes es
then_spelled n bytes None es are is others all = absurd cc
then_spelled n bytes (Some x) es are is others all =
    let parts : bytes ≡ entry_bytes x.0 ++ x.1 = one_spelling x.0 bytes x.1 are is in
    let rest : AreBytes x.1 = bytes_back (entry_bytes x.0) x.1 (subst AreBytes parts are) in
    others_spelled x.0 bytes x.1 (entries_by n x.1) es are is (λ fs. others x.1 fs rest) all

spelled_by : (n : ℕ) (bytes : List ℕ) (es : List Entry) → AreBytes bytes → entries_by n bytes ≡ Some es → AreSpelled bytes es
spelled_by n [] es are is = let none : [] ≡ es = cc in subst (AreSpelled []) none (record { bytes_are = refl; fit = tt })
spelled_by zero (b ∷ bytes) es are is = absurd cc
spelled_by (suc n) (b ∷ bytes) es are is = then_spelled n (b ∷ bytes) (entry_at (b ∷ bytes)) es are refl (λ rest fs. spelled_by n rest fs) is

pub all_spelled : (es : List Entry) (bytes : List ℕ) → AreBytes bytes → entries_in bytes ≡ Some es → AreSpelled bytes es
unfolding entries_in
all_spelled es bytes are is = spelled_by (length bytes) bytes es are is
