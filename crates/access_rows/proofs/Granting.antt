-- The bits of ACCESS's granted word.
use Rattle.std.proofs.Common.{if◌then◌else◌, ◌≡◌, ℕ, ◌^◌, ◌<◌, ◌∙◌, Bool, true, false, not, ◌&&◌, nat_eq, bit_and, bit_or, nat_lt, ◌||◌, refl, ap, arith}
use Rattle.std.proofs.lemmas.Nat.Bits.{bit_at_above}
use Rattle.std.proofs.lemmas.Bool.{and_parts}
use Rattle.std.proofs.lemmas.Bool.Decides.{nat_tests}
use Rattle.acl_list.specs.Mask.{has_bit}
use Rattle.acl_list.proofs.Bits.{bit_by_test}
use Rattle.access_rows.specs.Rights.{right, granted_rights, RightsAre}

abbrev term : Bool → ℕ → ℕ
term true n = n
term false n = 0

abbrev word : Bool → Bool → Bool → Bool → Bool → Bool → ℕ
word a b c d e f = bit_or (bit_or (bit_or (bit_or (bit_or (term a 1) (term b 2)) (term c 4)) (term d 8)) (term e 16)) (term f 32)

-- the effect of each of six truth values
abbrev for_both : (Bool → Bool) → Bool
for_both p = p true && p false

abbrev for_all : (Bool → Bool → Bool → Bool → Bool → Bool → Bool) → Bool
for_all p = for_both (λ a. for_both (λ b. for_both (λ c. for_both (λ d. for_both (λ e. for_both (λ f. p a b c d e f))))))

from_both : (p : Bool → Bool) → for_both p ≡ true → (b : Bool) → p b ≡ true
from_both p h true = (and_parts (p true) (p false) h).0
from_both p h false = (and_parts (p true) (p false) h).1

from_all : (p : Bool → Bool → Bool → Bool → Bool → Bool → Bool) → for_all p ≡ true → (a b c d e f : Bool) → p a b c d e f ≡ true
from_all p h a b c d e f =
    from_both (λ z. p a b c d e z)
    (from_both (λ y. for_both (λ z. p a b c d y z))
    (from_both (λ x. for_both (λ y. for_both (λ z. p a b c x y z)))
    (from_both (λ w. for_both (λ x. for_both (λ y. for_both (λ z. p a b w x y z))))
    (from_both (λ v. for_both (λ w. for_both (λ x. for_both (λ y. for_both (λ z. p a v w x y z)))))
    (from_both (λ u. for_both (λ v. for_both (λ w. for_both (λ x. for_both (λ y. for_both (λ z. p u v w x y z)))))) h a) b) c) d) e) f

abbrev same : Bool → Bool → Bool
same true b = b
same false b = not b

from_same : (a b : Bool) → same a b ≡ true → a ≡ b
from_same true true h = refl
from_same true false h = absurd (cc)
from_same false true h = absurd (cc)
from_same false false h = refl

bit_0 : (a b c d e f : Bool) → has_bit (word a b c d e f) 0 ≡ a
unfolding has_bit
bit_0 a b c d e f = from_same _ _ (from_all (λ a b c d e f. same (has_bit (word a b c d e f) 0) a) refl a b c d e f)

bit_1 : (a b c d e f : Bool) → has_bit (word a b c d e f) 1 ≡ b
unfolding has_bit
bit_1 a b c d e f = from_same _ _ (from_all (λ a b c d e f. same (has_bit (word a b c d e f) 1) b) refl a b c d e f)

bit_2 : (a b c d e f : Bool) → has_bit (word a b c d e f) 2 ≡ c
unfolding has_bit
bit_2 a b c d e f = from_same _ _ (from_all (λ a b c d e f. same (has_bit (word a b c d e f) 2) c) refl a b c d e f)

bit_3 : (a b c d e f : Bool) → has_bit (word a b c d e f) 3 ≡ d
unfolding has_bit
bit_3 a b c d e f = from_same _ _ (from_all (λ a b c d e f. same (has_bit (word a b c d e f) 3) d) refl a b c d e f)

bit_4 : (a b c d e f : Bool) → has_bit (word a b c d e f) 4 ≡ e
unfolding has_bit
bit_4 a b c d e f = from_same _ _ (from_all (λ a b c d e f. same (has_bit (word a b c d e f) 4) e) refl a b c d e f)

bit_5 : (a b c d e f : Bool) → has_bit (word a b c d e f) 5 ≡ f
unfolding has_bit
bit_5 a b c d e f = from_same _ _ (from_all (λ a b c d e f. same (has_bit (word a b c d e f) 5) f) refl a b c d e f)

above : (a b c d e f : Bool) → word a b c d e f < 2 ^ 6
above a b c d e f = from_below (from_all (λ a b c d e f. nat_lt (word a b c d e f) 64) refl a b c d e f)
  where
    from_below : {n : ℕ} → nat_lt n 64 ≡ true → n < 64
    from_below h = grind (arith, nat_tests)

right_is : (supported granted : Bool) (n : ℕ) (unsupported refused : Bool) → unsupported ≡ not supported → refused ≡ not granted
    → (if unsupported || refused then 0 else n) ≡ term (supported && granted) n
right_is true true n unsupported refused h k = rw (h, k) refl
right_is true false n unsupported refused h k = rw (h, k) refl
right_is false granted n unsupported refused h k = rw h refl

empty_is : (mask place : ℕ) → nat_eq (bit_and mask (2 ^ place)) 0 ≡ not (has_bit mask place)
empty_is mask place = turn _ _ (bit_by_test mask place)
  where
    turn : (x y : Bool) → x ≡ not y → y ≡ not x
    turn true false h = refl
    turn true true h = absurd (cc)
    turn false true h = refl
    turn false false h = absurd (cc)

module _ (supported grants : ℕ) where
  abbrev has : ℕ → ℕ → Bool
  has place bit = has_bit supported place && has_bit grants bit

  rights_are : granted_rights supported grants ≡ word (has 0 0) (has 1 5) (has 2 1) (has 3 2) (has 4 6) (has 5 5)
  rights_are = cc (one 0 0, one 1 5, one 2 1, one 3 2, one 4 6, one 5 5)
    where
      one : (place bit : ℕ) → right supported (2 ^ place) grants (2 ^ bit) ≡ term (has place bit) (2 ^ place)
      one place bit = right_is (has_bit supported place) (has_bit grants bit) (2 ^ place) _ _ (empty_is supported place) (empty_is grants bit)

  pub rights_bits : RightsAre (has_bit grants) supported (granted_rights supported grants)
  unfolding has_bit
  rights_bits = record {
    read = ap (λ n. has_bit n 0) rights_are ∙ bit_0 a b c d e f;
    lookup = ap (λ n. has_bit n 1) rights_are ∙ bit_1 a b c d e f;
    modify = ap (λ n. has_bit n 2) rights_are ∙ bit_2 a b c d e f;
    extend = ap (λ n. has_bit n 3) rights_are ∙ bit_3 a b c d e f;
    delete = ap (λ n. has_bit n 4) rights_are ∙ bit_4 a b c d e f;
    execution = ap (λ n. has_bit n 5) rights_are ∙ bit_5 a b c d e f;
    others = λ place h. ap (λ n. has_bit n place) rights_are ∙ ap (λ n. nat_eq n 1) (bit_at_above (word a b c d e f) 6 place (above a b c d e f) h);
  }
    where
      a : Bool
      a = has 0 0

      b : Bool
      b = has 1 5

      c : Bool
      c = has 2 1

      d : Bool
      d = has 3 2

      e : Bool
      e = has 4 6

      f : Bool
      f = has 5 5
