-- The bytes of a file, by index.
use Rattle.std.proofs.Common.{◌≡◌, ℕ, zero, suc, ◌+◌, ◌-◌, ◌<◌, ◌≤◌, ◌&&◌, nat_le, nat_lt, cond, if◌then◌else◌, slice_index, length, List, [], ◌∷◌, ◌++◌, get_or, take, drop, replicate, map, refl, ap, sym, ◌∙◌, arith}
use Rattle.std.specs.Prelude.{min, max}
use Rattle.std.specs.List.{range_with_len}
use Rattle.std.proofs.lemmas.Grind.{common_steps}
use Rattle.std.proofs.lemmas.Bool.Decides.{nat_tests}
use Rattle.std.proofs.lemmas.List.{drop-map, get_or_past}
use Rattle.std.proofs.lemmas.List.FromFn.{length-map-range_with_len, get_or-map-range_with_len, take-map-range_with_len, fill_by_all}
use Rattle.std.proofs.Common.{take_all}
use Rattle.std.proofs.lemmas.Bool.{cases_lt}
use Rattle.std.proofs.Math.Logic.{⊎_elim}
use Rattle.node_tree.specs.Changes.{written, resized}

pub part_reads : (xs : List ℕ) (start n k : ℕ) → k < n → get_or (take n (drop start xs)) k 0 ≡ get_or xs (start + k) 0
part_reads xs start n k h = grind (arith, common_steps)

-- a byte of a list that is made index by index
reads : (f : ℕ → ℕ) (n k : ℕ) → get_or (map f (range_with_len 0 n)) k 0 ≡ cond (nat_lt k n) (f k) 0
reads f n k = grind (arith, common_steps, nat_tests, length-map-range_with_len, get_or-map-range_with_len, get_or_past)

zeros_read : (xs : List ℕ) (n k : ℕ) → get_or (xs ++ replicate n 0) k 0 ≡ get_or xs k 0
zeros_read [] zero k = refl
zeros_read [] (suc n) zero = refl
zeros_read [] (suc n) (suc k) = zeros_read [] n k
zeros_read (x ∷ xs) n zero = refl
zeros_read (x ∷ xs) n (suc k) = zeros_read xs n k

take_reads : (xs : List ℕ) (m k : ℕ) → k < m → get_or (take m xs) k 0 ≡ get_or xs k 0
take_reads xs m k h = grind (arith, common_steps)

-- a size is set
pub resized_is : (f g : ℕ → ℕ) (n m : ℕ) → ((i : ℕ) → g i ≡ (if nat_lt i m then f i else 0)) → ((i : ℕ) → n ≤ i → f i ≡ 0) → map g (range_with_len 0 m) ≡ resized (map f (range_with_len 0 n)) m
resized_is f g n m new zeros =
    let xs : List ℕ = map f (range_with_len 0 n) in
    sym (fill_by_all g (resized xs m) m 0 (grind (arith, common_steps)) (λ k h.
    zeros_read (take m xs) (m - length xs) k ∙ take_reads xs m k h ∙ reads f n k ∙ same k h))
  where
    same : (k : ℕ) → k < m → cond {A = ℕ} (nat_lt k n) (f k) 0 ≡ g k
    same k h = grind (arith, nat_tests, new k, zeros k)

-- data are written
pub written_is : (f g : ℕ → ℕ) (n size offset : ℕ) (more : List ℕ) → size ≡ max n (offset + length more) → ((i : ℕ) → n ≤ i → f i ≡ 0)
    → ((i : ℕ) → g i ≡ (if nat_le offset i && nat_lt i (offset + length more) then slice_index more (i - offset) else f i))
    → map g (range_with_len 0 size) ≡ written (map f (range_with_len 0 n)) offset more
written_is f g n size offset more is zeros new =
    let xs : List ℕ = map f (range_with_len 0 n) in
    let long : length xs ≡ n = length-map-range_with_len f 0 n in
    fill_by_all place (map g (range_with_len 0 size)) size 0 (length-map-range_with_len g 0 size) (λ k h. get_or-map-range_with_len g 0 size k k 0 h (omega arith) ∙ new k ∙ ap (λ old. if nat_le offset k && nat_lt k (offset + length more) then slice_index more (k - offset) else old) (same k))
    ∙ ap (λ (size : ℕ). map place (range_with_len 0 size)) (is ∙ ap (λ (length_of : ℕ). max length_of (offset + length more)) (sym long))
  where
    place : ℕ → ℕ
    place k = if nat_le offset k && nat_lt k (offset + length more) then slice_index more (k - offset) else slice_index (map f (range_with_len 0 n)) k

    same : (k : ℕ) → f k ≡ get_or (map f (range_with_len 0 n)) k 0
    same k = by_cases k ∙ sym (reads f n k)
      where
        by_cases : (k : ℕ) → f k ≡ cond {A = ℕ} (nat_lt k n) (f k) 0
        by_cases k = grind (arith, nat_tests, zeros k)

-- data are written into an empty file
pub written_all : (bytes more : List ℕ) → bytes ≡ [] → written bytes 0 more ≡ more
written_all bytes more none = ap (λ (old : List ℕ). written old 0 more) none ∙ sym (fill_by_all place more (max 0 (0 + length more)) 0 (let l : length more ≡ max 0 (0 + length more) = omega arith in l) same)
  where
    place : ℕ → ℕ
    place k = if nat_le 0 k && nat_lt k (0 + length more) then slice_index more (k - 0) else slice_index [] k

    same : (k : ℕ) → k < max 0 (0 + length more) → get_or more k 0 ≡ place k
    same k h = grind (arith, nat_tests)

drop_range : (a n k b m : ℕ) → a + k ≡ b → m ≡ n - k → drop k (range_with_len a n) ≡ range_with_len b m
drop_range a n zero b m at left = let e : a ≡ b = omega arith in let l : m ≡ n = omega arith in rw (l, ← e) refl
drop_range a zero (suc k) b m at left = let l : m ≡ 0 = omega arith in rw l refl
drop_range a (suc n) (suc k) b m at left = drop_range (a + 1) n k b m (omega arith) (omega arith)

-- a range is read
pub stretch_is : (f : ℕ → ℕ) (n offset most count : ℕ) → count ≡ min (n - offset) most → take most (drop offset (map f (range_with_len 0 n))) ≡ map f (range_with_len offset count)
stretch_is f n offset most count is =
    ap (take most) (drop-map f offset (range_with_len 0 n) ∙ ap (map f) (drop_range 0 n offset offset (n - offset) (omega arith) refl))
    ∙ ⊎_elim
    (λ (few : n - offset < most). take_all most (map f (range_with_len offset (n - offset))) (let l : length (map f (range_with_len offset (n - offset))) ≡ n - offset = length-map-range_with_len f offset (n - offset) in omega arith) ∙ ap (λ k. map f (range_with_len offset k)) (let e : n - offset ≡ count = omega arith in e))
    (λ (many : most ≤ n - offset). take-map-range_with_len f offset (n - offset) most many ∙ ap (λ k. map f (range_with_len offset k)) (let e : most ≡ count = omega arith in e))
    (cases_lt (n - offset) most)

-- ---- holes

-- each byte reads as it was made, where those past the end are zeros
pub reads_all : (f : ℕ → ℕ) (n : ℕ) → ((i : ℕ) → n ≤ i → f i ≡ 0) → (k : ℕ) → slice_index (map f (range_with_len 0 n)) k ≡ f k
reads_all f n zeros k = reads f n k ∙ by_cases
  where
    by_cases : cond {A = ℕ} (nat_lt k n) (f k) 0 ≡ f k
    by_cases = grind (arith, nat_tests, zeros k)
