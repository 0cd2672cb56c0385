-- Items by rising number, visited in order in two lists at once.
use Rattle.std.proofs.Common.{◌≡◌, ◌≢◌, ◌⊎◌, ⊎_elim, ℕ, ◌+◌, ◌-◌, ◌<◌, ◌≤◌, min, nat_le, nat_lt, Fits, w64, Bool, true, false, cond, List, [], ◌∷◌, Option, Some, None, refl, sym, ap, ◌∙◌, subst, arith, inl, inr}
use Rattle.std.specs.Map.{lookup, keys_of}
use Rattle.std.specs.BTreeMap.{is_at}
use Rattle.std.specs.Ordering.{nat_cmp}
use Rattle.std.specs.declared.cmp.Ordering.TheVariants.{Less}
use Rattle.std.specs.List.{AllByRecursion}
use Rattle.std.proofs.lemmas.Map.Keys.{sorted_head, sorted_tail}
use Rattle.session_slots.specs.Limits.{END}
use Rattle.session_slots.specs.Orderly.{IsIn}
use Rattle.session_slots.specs.Restoring.{IsRising, number_from}
use Rattle.session_slots.proofs.Members.{is_another}
use Rattle.client_parts.specs.internal.Comparing.{first_of}

apart : (m n : ℕ) → m < n → n ≢ m
apart m n h = grind (arith, h)

below_of : (m n : ℕ) → nat_cmp m n ≡ Less → m < n
below_of m n h = grind (arith, h)

-- another number's item is passed over
passed : {X : Type 0} (n : ℕ) (e : ℕ × X) (es : List (ℕ × X)) → n ≢ e.0 → lookup (is_at (nat_cmp n)) (e ∷ es) ≡ lookup (is_at (nat_cmp n)) es
passed n e es other = ap (λ b. cond b (Some e.1) (lookup (is_at (nat_cmp n)) es)) (is_another (is_at (nat_cmp n) e.0) n e.0 refl other)

-- ---- none is left

none_step : {X : Type 0} (at n : ℕ) (b : Bool) (e : ℕ × X) (es : List (ℕ × X)) → nat_le at e.0 ≡ b → cond b (Some e.0) (number_from at es) ≡ None → at ≤ n
    → (number_from at es ≡ None → lookup (is_at (nat_cmp n)) es ≡ None) → lookup (is_at (nat_cmp n)) (e ∷ es) ≡ None
none_step at n true e es t h le ih = absurd (never h)
  where
    never : Some e.0 ≡ None → ⊥
    never q = cc
none_step at n false e es t h le ih = passed n e es (apart e.0 n (below at e.0 n t le)) ∙ ih h
  where
    below : (at m n : ℕ) → nat_le at m ≡ false → at ≤ n → m < n
    below at m n h k = grind (arith, h, k)

pub none_from : {X : Type 0} (at n : ℕ) (es : List (ℕ × X)) → number_from at es ≡ None → at ≤ n → lookup (is_at (nat_cmp n)) es ≡ None
none_from at n [] h le = refl
none_from at n (e ∷ es) h le = none_step at n (nat_le at e.0) e es refl h le (λ q. none_from at n es q le)

-- ---- the next one

-- all items have numbers above this one, so none has it
none_above : {X : Type 0} (n m : ℕ) (es : List (ℕ × X)) → n < m → AllByRecursion (λ k. nat_cmp m k ≡ Less) (keys_of es) → lookup (is_at (nat_cmp n)) es ≡ None
none_above n m [] lt all = refl
none_above n m (e ∷ es) lt all = passed n e es (other n m e.0 lt (below_of m e.0 all.0)) ∙ none_above n m es lt all.1
  where
    other : (n m k : ℕ) → n < m → m < k → n ≢ k
    other n m k h g = grind (arith, h, g)

next_step : {X : Type 0} (at m n : ℕ) (b : Bool) (e : ℕ × X) (es : List (ℕ × X)) → IsRising (e ∷ es) → nat_le at e.0 ≡ b → cond b (Some e.0) (number_from at es) ≡ Some m → at ≤ n → n < m
    → (number_from at es ≡ Some m → lookup (is_at (nat_cmp n)) es ≡ None) → lookup (is_at (nat_cmp n)) (e ∷ es) ≡ None
next_step at m n true e es rising t h le lt ih =
    let same : e.0 ≡ m = cc in
    let below : n < e.0 = subst (λ k. n < k) (sym same) lt in
    passed n e es (before n e.0 below) ∙ none_above n e.0 es below (sorted_head nat_cmp e.0 (keys_of es) rising)
  where
    before : (n k : ℕ) → n < k → n ≢ k
    before n k h = grind (arith, h)
next_step at m n false e es rising t h le lt ih = passed n e es (apart e.0 n (below at e.0 n t le)) ∙ ih h
  where
    below : (at m n : ℕ) → nat_le at m ≡ false → at ≤ n → m < n
    below at m n h k = grind (arith, h, k)

-- no item has a number between
pub none_between : {X : Type 0} (at m n : ℕ) (es : List (ℕ × X)) → IsRising es → number_from at es ≡ Some m → at ≤ n → n < m → lookup (is_at (nat_cmp n)) es ≡ None
none_between at m n [] rising h le lt = refl
none_between at m n (e ∷ es) rising h le lt = next_step at m n (nat_le at e.0) e es rising refl h le lt (λ q. none_between at m n es (sorted_tail nat_cmp e.0 (keys_of es) rising) q le lt)

-- the number is at least the given one, and an item has it
pub record IsNumberOf {X : Type 0} (at m : ℕ) (es : List (ℕ × X)) : Type 0 where
  pub x : X
  pub is_in : IsIn (m, x) es
  pub least : at ≤ m

abbrev with_number : {X : Type 0} → X → ℕ → ℕ × X
with_number x n = (n, x)

number_step : {X : Type 0} (at m : ℕ) (b : Bool) (e : ℕ × X) (es : List (ℕ × X)) → nat_le at e.0 ≡ b → cond b (Some e.0) (number_from at es) ≡ Some m → (number_from at es ≡ Some m → IsNumberOf at m es) → IsNumberOf at m (e ∷ es)
number_step at m true e es t h ih =
    let same : m ≡ e.0 = cc in
    record { x = e.1; is_in = inl (ap (with_number e.1) same); least = subst (λ k. at ≤ k) (sym same) (from at e.0 t) }
  where
    from : (m n : ℕ) → nat_le m n ≡ true → m ≤ n
    from m n h = grind (arith, h)
number_step at m false e es t h ih = let there = ih h in record { x = there.x; is_in = inr there.is_in; least = there.least }

pub number_of_entry : {X : Type 0} (at m : ℕ) (es : List (ℕ × X)) → number_from at es ≡ Some m → IsNumberOf at m es
number_of_entry at m [] h = absurd (never h)
  where
    never : None ≡ Some m → ⊥
    never q = cc
number_of_entry at m (e ∷ es) h = number_step at m (nat_le at e.0) e es refl h (λ q. number_of_entry at m es q)

-- ---- two lists

module _ {X Y : Type 0} (es : List (ℕ × X)) (fs : List (ℕ × Y)) (rising : IsRising es) (rising' : IsRising fs) where
  abbrev None_at : ℕ → Type 0
  None_at n = (lookup (is_at (nat_cmp n)) es ≡ None) × (lookup (is_at (nat_cmp n)) fs ≡ None)

  neither : (a b : Option ℕ) → first_of a b ≡ None → (a ≡ None) × (b ≡ None)
  neither (Some m) (Some n) h = cc
  neither (Some m) None h = cc
  neither None (Some n) h = cc
  neither None None h = (refl, refl)

  -- if neither has a next number, neither has an item from there on
  pub none_further : (at n : ℕ) → first_of (number_from at es) (number_from at fs) ≡ None → at ≤ n → None_at n
  none_further at n h le =
      let both = neither (number_from at es) (number_from at fs) h in
      (none_from at n es both.0 le, none_from at n fs both.1 le)

  before_of : (at m n : ℕ) (a b : Option ℕ) → number_from at es ≡ a → number_from at fs ≡ b → first_of a b ≡ Some m → at ≤ n → n < m → None_at n
  before_of at m n (Some k) (Some l) a b h le lt =
      let least : min k l ≡ m = cc in
      (none_between at k n es rising a le (to k l m n least lt), none_between at l n fs rising' b le (to' k l m n least lt))
    where
      to : (k l m n : ℕ) → min k l ≡ m → n < m → n < k
      to k l m n h g = grind (arith, h, g)

      to' : (k l m n : ℕ) → min k l ≡ m → n < m → n < l
      to' k l m n h g = grind (arith, h, g)
  before_of at m n (Some k) None a b h le lt =
      let same : k ≡ m = cc in
      (none_between at m n es rising (a ∙ ap Some same) le lt, none_from at n fs b le)
  before_of at m n None (Some l) a b h le lt =
      let same : l ≡ m = cc in
      (none_from at n es a le, none_between at m n fs rising' (b ∙ ap Some same) le lt)
  before_of at m n None None a b h le lt = cc

  -- no item of either has a number before the next one
  pub none_before : (at m n : ℕ) → first_of (number_from at es) (number_from at fs) ≡ Some m → at ≤ n → n < m → None_at n
  none_before at m n h le lt = before_of at m n (number_from at es) (number_from at fs) refl refl h le lt

  -- all numbers are below an end, so the next one is
  module _ (end : ℕ) (below : (e : ℕ × X) → IsIn e es → e.0 < end) (below' : (f : ℕ × Y) → IsIn f fs → f.0 < end) where
    pub record IsNext (at m : ℕ) : Type 0 where
      pub least : at ≤ m
      pub most : m < end

    next_of : (at m : ℕ) (a b : Option ℕ) → number_from at es ≡ a → number_from at fs ≡ b → first_of a b ≡ Some m → IsNext at m
    next_of at m (Some k) (Some l) a b h =
        let least : min k l ≡ m = cc in
        let x = number_of_entry at k es a in
        let y = number_of_entry at l fs b in
        let x_below : k < end = below (k, x.x) x.is_in in
        let x_least = x.least in
        let y_least = y.least in
        record { least = at_least at k l m least x_least y_least; most = at_most k l m end least x_below }
      where
        at_least : (at k l m : ℕ) → min k l ≡ m → at ≤ k → at ≤ l → at ≤ m
        at_least at k l m h f g = grind (arith, h, f, g)

        at_most : (k l m end : ℕ) → min k l ≡ m → k < end → m < end
        at_most k l m end h f = grind (arith, h, f)
    next_of at m (Some k) None a b h =
        let same : k ≡ m = cc in
        let x = number_of_entry at m es (a ∙ ap Some same) in
        record { least = x.least; most = below (m, x.x) x.is_in }
    next_of at m None (Some l) a b h =
        let same : l ≡ m = cc in
        let y = number_of_entry at m fs (b ∙ ap Some same) in
        record { least = y.least; most = below' (m, y.x) y.is_in }
    next_of at m None None a b h = cc

    pub next_number : (at m : ℕ) → first_of (number_from at es) (number_from at fs) ≡ Some m → IsNext at m
    next_number at m h = next_of at m (number_from at es) (number_from at fs) refl refl h

-- ---- walking

split_at : (n at : ℕ) → (n < at) ⊎ (at ≤ n)
split_at n at = of (nat_lt n at) refl
  where
    of : (b : Bool) → nat_lt n at ≡ b → (n < at) ⊎ (at ≤ n)
    of true h = inl (is h)
      where
        is : nat_lt n at ≡ true → n < at
        is h = grind (arith, h)
    of false h = inr (not h)
      where
        not : nat_lt n at ≡ false → at ≤ n
        not h = grind (arith, h)

-- a property that holds below a number, between it and the next one, and of the next one, holds up to the
-- next one
pub walked : (P : ℕ → Type 0) (at m : ℕ) → ((n : ℕ) → n < at → P n) → ((n : ℕ) → at ≤ n → n < m → P n) → P m → (n : ℕ) → n < m + 1 → P n
walked P at m below between it n lt =
    ⊎_elim (λ (h : n < at). below n h) (λ (h : at ≤ n). ⊎_elim (λ (k : n < m). between n h k) (λ (k : m ≤ n). subst P (same m n k lt) it) (split_at n m)) (split_at n at)
  where
    same : (m n : ℕ) → m ≤ n → n < m + 1 → m ≡ n
    same m n h k = omega (arith, h, k)

-- a property that holds below a number, and from it on, holds
pub walked_all : (P : ℕ → Type 0) (at : ℕ) → ((n : ℕ) → n < at → P n) → ((n : ℕ) → at ≤ n → P n) → (n : ℕ) → P n
walked_all P at below further n = ⊎_elim (λ (h : n < at). below n h) (λ (h : at ≤ n). further n h) (split_at n at)

pub more : (m end : ℕ) → m < end → m + 1 ≤ end
more m end h = omega (arith, h)

pub smaller : (at m end : ℕ) → at ≤ m → m < end → end - (m + 1) < end - at
smaller at m end h k = omega (arith, h, k)

pub fits : (m : ℕ) → m < END → Fits w64 (m + 1)
fits m h = grind (arith, h)
