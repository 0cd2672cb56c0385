-- Entries that were written are read again: one entry, and all entries of a record.
use Rattle.std.proofs.Common.{◌≡◌, ◌≢◌, ◌<◌, ◌≤◌, ◌^◌, ◌∙◌, ℕ, zero, suc, List, [], ◌∷◌, ◌++◌, length, Option, Some, None, refl, ap, sym, arith, lit<}
use Rattle.std.specs.Prelude.{IfSome}
use Rattle.std.specs.Option.{option_map}
use Rattle.std.specs.List.{flat_map, AllByRecursion}
use Rattle.xdr_wire.specs.Xdr.{HasSpelling, spelling, optional, uint}
use Rattle.xdr_wire.proofs.Spelling.{again, spelled}
use Rattle.nfs_types.specs.MomentView.{moment_value}
use Rattle.nfs_types.specs.declared.moment.Moment.{Moment}
use Rattle.log_entries.specs.Forms.{entry}
use Rattle.log_entries.specs.Entries.{Entry, Call, ClientExpired, Loaded, IsEntry, call_with, entry_value, entry_bytes, entry_in, meant, entry_at, then_others, entries_by, entries_in}
use Rattle.nfs_types.proofs.Moments.{moment_again}
use Rattle.log_entries.proofs.Taking.{shorter}

-- ---- one entry

place_spells : (place : Option ℕ) → IfSome place (λ n. n < 2 ^ 32) → HasSpelling (optional uint) place
place_spells None h = tt
place_spells (Some n) h = h

nanoseconds_fit : (m : Moment) → m.nanoseconds < 2 ^ 32
nanoseconds_fit m = let few : m.nanoseconds < 1000000000 = m.is_fraction in omega arith

-- an entry that can be written has an encoding
pub has_spelling : (e : Entry) → IsEntry e → HasSpelling entry (entry_value e)
has_spelling (Call c) h = (lit< tt, (refl, ((h.seconds, nanoseconds_fit c.now), ((omega (arith, h.bytes), h.bytes), (place_spells c.delayed h.delayed, h.checksum)))))
has_spelling (ClientExpired client) h = (lit< tt, (omega arith, (refl, h)))
has_spelling (Loaded None) h = (lit< tt, (omega arith, (omega arith, (refl, tt))))
has_spelling (Loaded (Some text)) h = (lit< tt, (omega arith, (omega arith, (refl, (omega (arith, h), h)))))

-- the value of an entry represents that entry
entry_again : (e : Entry) → entry_in (entry_value e) ≡ Some e
entry_again (Call c) = ap (option_map Call) (ap (option_map (call_with (moment_value c.now, (c.bytes, (c.delayed, c.checksum))))) (sym (moment_again c.now)))
entry_again (ClientExpired client) = refl
entry_again (Loaded text) = refl

pub written_again : (e : Entry) (rest : List ℕ) → IsEntry e → entry_at (entry_bytes e ++ rest) ≡ Some (e, rest)
unfolding entry_at entry_bytes
written_again e rest h =
    ap (meant entry_in) (again entry (entry_value e) (spelling entry (entry_value e)) rest (spelled entry (entry_value e) (has_spelling e h)))
    ∙ ap (option_map {U = Entry × List ℕ} (λ m. (m, rest))) (entry_again e)

-- ---- all entries of a record

same_others : (m n : ℕ) (bytes : List ℕ) → ((rest : List ℕ) → length rest ≤ m → length rest ≤ n → entries_by m rest ≡ entries_by n rest) → length bytes ≤ suc m → length bytes ≤ suc n → (o : Option (Entry × List ℕ)) → entry_at bytes ≡ o → then_others (entries_by m) o ≡ then_others (entries_by n) o
same_others m n bytes others p q None is = refl
same_others m n bytes others p q (Some x) is =
    let fewer : length x.1 < length bytes = shorter bytes x.1 x.0 is in
    ap (option_map (λ es. x.0 ∷ es)) (others x.1 (omega arith) (omega arith))

-- any bound that is large enough gives the same entries
same_by : (m n : ℕ) (bytes : List ℕ) → length bytes ≤ m → length bytes ≤ n → entries_by m bytes ≡ entries_by n bytes
same_by m n [] p q = refl
same_by zero n (b ∷ bytes) p q = absurd (omega arith)
same_by (suc m) zero (b ∷ bytes) p q = absurd (omega arith)
same_by (suc m) (suc n) (b ∷ bytes) p q = same_others m n (b ∷ bytes) (λ rest. same_by m n rest) p q (entry_at (b ∷ bytes)) refl

pub none_left : entries_in [] ≡ Some []
unfolding entries_in
none_left = refl

pub one_more : (e : Entry) (bytes rest : List ℕ) → entry_at bytes ≡ Some (e, rest) → entries_in bytes ≡ option_map (λ es. e ∷ es) (entries_in rest)
unfolding entries_in
one_more e [] rest is = let few : length rest < 0 = shorter [] rest e is in absurd (omega arith)
one_more e (b ∷ bytes) rest is =
    let few : length rest < length (b ∷ bytes) = shorter (b ∷ bytes) rest e is in
    ap (then_others (entries_by (length bytes))) is
    ∙ ap (option_map (λ es. e ∷ es)) (same_by (length bytes) (length rest) rest (omega arith) (omega arith))

pub refused : (bytes : List ℕ) → bytes ≢ [] → entry_at bytes ≡ None → entries_in bytes ≡ None
unfolding entries_in
refused [] some is = absurd (some refl)
refused (b ∷ bytes) some is = ap (then_others (entries_by (length bytes))) is

pub all_again : (es : List Entry) → AllByRecursion IsEntry es → entries_in (flat_map entry_bytes es) ≡ Some es
all_again [] h = none_left
all_again (e ∷ es) h =
    one_more e (entry_bytes e ++ flat_map entry_bytes es) (flat_map entry_bytes es) (written_again e (flat_map entry_bytes es) h.0)
    ∙ ap (option_map (λ es. e ∷ es)) (all_again es h.1)
