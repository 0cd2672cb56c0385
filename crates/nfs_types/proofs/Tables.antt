-- The sets of the attributes are those of the table.
use Rattle.std.proofs.Common.{◌≡◌, ◌⊎◌, inl, inr, ◌∙◌, ℕ, ◌<◌, ◌≤◌, ◌/◌, ◌%◌, Bool, true, false, not, ◌&&◌, ◌||◌, nat_eq, nat_lt, min, List, [], ◌∷◌, length, get_or, refl, sym, ap, arith}
use Rattle.std.specs.Int.{bit_at}
use Rattle.std.specs.List.{list_all, list_any, range_with_len}
use Rattle.std.proofs.lemmas.Bool.{cases_Bool, cases_lt, ltb-true, ne_eqb, and_parts}
use Rattle.std.proofs.lemmas.List.{get_or_past}
use Rattle.std.proofs.lemmas.List.Folds.{list_all_at}
use Rattle.std.proofs.lemmas.List.FromFn.{length-range_with_len, get_or-range_with_len}
use Rattle.std.proofs.lemmas.Bool.Decides.{nat_tests}
use Rattle.std.proofs.lemmas.Nat.Bits.{bit_at-zero, bit_at-lt, bit_at_and}
use Rattle.nfs_types.specs.Common.{common}
use Rattle.nfs_types.specs.Forms.{trimmed}
use Rattle.nfs_types.proofs.Numbers.{by_word}
use Rattle.nfs_types.proofs.Shared.{common_at}
use Rattle.nfs_types.specs.Sets.{has_number}
use Rattle.nfs_types.specs.Attributes.{row, number_of, all, all_words, supported_words, settable_words, is_of_times}
use Rattle.nfs_types.specs.declared.attribute.Attribute.{Attribute}

abbrev same : Bool → Bool → Bool
same true b = b
same false b = not b

are_same : (a b : Bool) → same a b ≡ true → a ≡ b
are_same true true e = refl
are_same true false e = sym e
are_same false true e = e
are_same false false e = refl

below : (p : ℕ → Bool) (m n : ℕ) → list_all p (range_with_len 0 m) ≡ true → n < m → p n ≡ true
below p m n h lt = one (cases_Bool (p n))
  where
    one : (p n ≡ true) ⊎ (p n ≡ false) → p n ≡ true
    one (inl is) = is
    one (inr isnt) =
        let at : get_or (range_with_len 0 m) n 0 ≡ n = get_or-range_with_len 0 m n 0 lt ∙ (omega arith) in
        let fails : list_all p (range_with_len 0 m) ≡ false = list_all_at p (range_with_len 0 m) n 0 (omega (arith, lt, length-range_with_len 0 m)) (ap p at ∙ isnt) in
        absurd (cc)

-- no attribute of the list has a number that is above all of theirs
none : (pick : Attribute → Bool) (list : List Attribute) (n : ℕ) → list_all (λ a. nat_lt (number_of a) 96) list ≡ true → 96 ≤ n → list_any (λ a. pick a && nat_eq (number_of a) n) list ≡ false
none pick [] n h le = refl
none pick (a ∷ list) n h le =
    let parts = and_parts (nat_lt (number_of a) 96) (list_all (λ b. nat_lt (number_of b) 96) list) h in
    let lt : number_of a < 96 = ltb-true (number_of a) 96 parts.0 in
    let not_this : nat_eq (number_of a) n ≡ false = ne_eqb (number_of a) n (λ e. omega (arith, e, lt, le)) in
    rw (not_this, none pick list n parts.1 le) (off (pick a))
  where
    off : (b : Bool) → b && false || false ≡ false
    off true = refl
    off false = refl

past : (words : List ℕ) (n : ℕ) → length words ≤ 3 → 96 ≤ n → has_number words n ≡ false
unfolding has_number
past words n short le = rw (get_or_past words (n / 32) 0 (omega (arith, short, le)), bit_at-zero (n % 32)) refl

-- the words have the numbers of the attributes that are picked
are_picked : (words : List ℕ) (pick : Attribute → Bool) → length words ≤ 3
    → list_all (λ n. same (has_number words n) (list_any (λ a. pick a && nat_eq (number_of a) n) all)) (range_with_len 0 96) ≡ true
    → (n : ℕ) → has_number words n ≡ list_any (λ a. pick a && nat_eq (number_of a) n) all
are_picked words pick short h n = one (cases_lt n 96)
  where
    one : (n < 96) ⊎ (96 ≤ n) → has_number words n ≡ list_any (λ a. pick a && nat_eq (number_of a) n) all
    one (inl lt) = are_same (has_number words n) (list_any (λ a. pick a && nat_eq (number_of a) n) all) (below (λ m. same (has_number words m) (list_any (λ a. pick a && nat_eq (number_of a) m) all)) 96 n h lt)
    one (inr le) = past words n short le ∙ sym (none pick all n refl le)

pub all_are : (n : ℕ) → has_number all_words n ≡ list_any (λ a. nat_eq (number_of a) n) all
unfolding has_number
all_are = are_picked all_words (λ a. true) (omega arith) refl

pub standard_are : (n : ℕ) → has_number (supported_words false) n ≡ list_any (λ a. not (is_of_times a) && nat_eq (number_of a) n) all
unfolding has_number
standard_are = are_picked (supported_words false) (λ a. not (is_of_times a)) (omega arith) refl

pub settable_are : (n : ℕ) → has_number settable_words n ≡ list_any (λ a. not (nat_eq (row a).set_by 0) && nat_eq (number_of a) n) all
unfolding has_number
settable_are = are_picked settable_words (λ a. not (nat_eq (row a).set_by 0)) (omega arith) refl

and_test : (x y r : ℕ) → x < 2 → y < 2 → r ≡ min x y → nat_eq r 1 ≡ nat_eq x 1 && nat_eq y 1
and_test x y r p q e = grind (arith, nat_tests)

pub shared : (vs ws : List ℕ) (n : ℕ) → has_number (trimmed (common vs ws)) n ≡ has_number vs n && has_number ws n
unfolding has_number
shared vs ws n =
    by_word (common vs ws) n ∙ ap (λ (w : ℕ). nat_eq (bit_at w (n % 32)) 1) (common_at vs ws (n / 32))
    ∙ and_test (bit_at (get_or vs (n / 32) 0) (n % 32)) (bit_at (get_or ws (n / 32) 0) (n % 32)) _ (bit_at-lt _ _) (bit_at-lt _ _) (bit_at_and (get_or vs (n / 32) 0) (get_or ws (n / 32) 0) (n % 32))
