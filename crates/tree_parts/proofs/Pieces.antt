-- The parts of a long file: where they are, and what their bytes are.
use Rattle.std.proofs.Common.{◌≡◌, ◌≢◌, ℕ, zero, suc, ◌+◌, ◌-◌, ◌*◌, ◌/◌, ◌<◌, ◌≤◌, Bool, true, false, not, cond, ◌&&◌, ◌||◌, List, [], ◌∷◌, ◌++◌, length, map, take, drop, get_or, refl, ap, sym, ◌∙◌, subst, arith, Some, None}
use Rattle.std.specs.Prelude.{◌==◌, find, nat_le, nat_lt, filter, slice_index, min, max}
use Rattle.std.specs.List.{list_all, range_with_len}
use Rattle.std.proofs.Math.Logic.{⊎_elim}
use Rattle.std.proofs.lemmas.Grind.{common_steps}
use Rattle.std.proofs.lemmas.Bool.{and_from, and_parts, cases_lt, le-leb, lt-ltb}
use Rattle.std.proofs.lemmas.Bool.Decides.{Decides-eqb, Decides-ltb, nat_tests}
use Rattle.std.proofs.lemmas.List.{get_or_past, take_all, drop_all, length-take, length-drop, append-nil, take-append-le}
use Rattle.std.proofs.lemmas.List.FromFn.{fill_by_all}
use Rattle.node_tree.specs.Changes.{written}
use Rattle.node_tree.specs.Holes.{IsHole}
use Rattle.node_tree.proofs.Placing.{part_reads}
use Rattle.tree_parts.specs.Parts.{PIECE, piece, has_part, rest_offsets}

-- ---- lengths

pub length_piece : (bytes : List ℕ) (offset : ℕ) → length (piece bytes offset) ≤ PIECE
length_piece bytes offset = rw (length-take PIECE (drop offset bytes)) (omega arith)

pub length_within : (bytes : List ℕ) (offset : ℕ) → offset + length (piece bytes offset) ≤ offset + (length bytes - offset)
length_within bytes offset = rw (length-take PIECE (drop offset bytes), length-drop offset bytes) (omega arith)

-- ---- pieces of zeros

all_zero : (xs : List ℕ) → ((k : ℕ) → get_or xs k 0 ≡ 0) → list_all (λ b. b == 0) xs ≡ true
all_zero [] zeros = refl
all_zero (x ∷ xs) zeros = and_from (x == 0) (list_all (λ b. b == 0) xs) ((Decides-eqb x 0).1 (zeros 0)) (all_zero xs (λ k. zeros (suc k)))

each_zero : (xs : List ℕ) → list_all (λ b. b == 0) xs ≡ true → (k : ℕ) → get_or xs k 0 ≡ 0
each_zero [] all k = refl
each_zero (x ∷ xs) all zero = (Decides-eqb x 0).0 (and_parts (x == 0) (list_all (λ b. b == 0) xs) all).0
each_zero (x ∷ xs) all (suc k) = each_zero xs (and_parts (x == 0) (list_all (λ b. b == 0) xs) all).1 k

reads : (bytes : List ℕ) (offset i : ℕ) → offset ≤ i → i < offset + PIECE → get_or (piece bytes offset) (i - offset) 0 ≡ get_or bytes i 0
reads bytes offset i from before =
    let at : offset + (i - offset) ≡ i = omega arith in
    part_reads bytes offset PIECE (i - offset) (omega arith) ∙ ap (λ j. get_or bytes j 0) at

pub hole_of_zeros : (bytes : List ℕ) (offset : ℕ) → list_all (λ b. b == 0) (piece bytes offset) ≡ true → IsHole bytes offset (offset + PIECE)
hole_of_zeros bytes offset all i from before = sym (reads bytes offset i from before) ∙ each_zero (piece bytes offset) all (i - offset)

zeros_of_hole : (bytes : List ℕ) (offset : ℕ) → IsHole bytes offset (offset + PIECE) → list_all (λ b. b == 0) (piece bytes offset) ≡ true
zeros_of_hole bytes offset hole = all_zero (piece bytes offset) (λ k. ⊎_elim
    (λ (inside : k < PIECE). part_reads bytes offset PIECE k inside ∙ hole (offset + k) (omega arith) (omega arith))
    (λ (past : PIECE ≤ k). get_or_past (piece bytes offset) k 0 (let short : length (piece bytes offset) ≤ PIECE = length_piece bytes offset in omega arith))
    (cases_lt k PIECE))

data_in : (bytes : List ℕ) (offset place : ℕ) → offset ≤ place → place < offset + PIECE → slice_index bytes place ≢ 0 → list_all (λ b. b == 0) (piece bytes offset) ≡ false
data_in bytes offset place from before some =
    elim (list_all (λ b. b == 0) (piece bytes offset)) as (λ b. list_all (λ b. b == 0) (piece bytes offset) ≡ b → b ≡ false) [
      | true ↦ λ all. absurd (some (hole_of_zeros bytes offset all place from before))
      | false ↦ λ _. refl
    ] refl

-- ---- which offsets have a part

or_true : (a b : Bool) → b ≡ false → (a || not b) ≡ true
or_true true b is = refl
or_true false b is = ap not is

neither : (a b : Bool) → a ≡ false → b ≡ true → (a || not b) ≡ false
neither a b above is = ap (λ a. a || not b) above ∙ ap not is

not_le : (a b : ℕ) → b < a → nat_le a b ≡ false
not_le a b lt = grind (arith, nat_tests)

part_of_data : (bytes : List ℕ) (offset place : ℕ) → offset ≤ place → place < offset + PIECE → slice_index bytes place ≢ 0 → has_part bytes offset ≡ true
part_of_data bytes offset place from before some = or_true (nat_le (length bytes) (offset + PIECE)) _ (data_in bytes offset place from before some)

last_part : (bytes : List ℕ) (offset : ℕ) → length bytes ≤ offset + PIECE → has_part bytes offset ≡ true
last_part bytes offset le = ap (λ b. b || not (list_all (λ b. b == 0) (piece bytes offset))) (le-leb (length bytes) (offset + PIECE) le)

no_part : (bytes : List ℕ) (offset : ℕ) → offset + PIECE < length bytes → IsHole bytes offset (offset + PIECE) → has_part bytes offset ≡ false
no_part bytes offset more hole = neither (nat_le (length bytes) (offset + PIECE)) _ (not_le (length bytes) (offset + PIECE) more) (zeros_of_hole bytes offset hole)

-- what an offset without a part says
pub record Skipped (bytes : List ℕ) (offset : ℕ) : Type 0 where
  pub more : offset + PIECE < length bytes
  pub hole : IsHole bytes offset (offset + PIECE)

pub skipped : (bytes : List ℕ) (offset : ℕ) → has_part bytes offset ≡ false → Skipped bytes offset
skipped bytes offset none = there (nat_le (length bytes) (offset + PIECE)) (list_all (λ b. b == 0) (piece bytes offset)) refl refl none
  where
    there : (a b : Bool) → nat_le (length bytes) (offset + PIECE) ≡ a → list_all (λ b. b == 0) (piece bytes offset) ≡ b → (a || not b) ≡ false → Skipped bytes offset
    there true b is all h = cc
    there false false is all h = cc
    there false true is all h = record { more = above is; hole = hole_of_zeros bytes offset all }
      where
        above : nat_le (length bytes) (offset + PIECE) ≡ false → offset + PIECE < length bytes
        above isnt = grind (arith, nat_tests)

-- ---- the next offset

module _ (bytes : List ℕ) (at : ℕ) where
  found_first : (target n k : ℕ) → k ≤ target → target < k + n → at < target * PIECE → has_part bytes (target * PIECE) ≡ true
      → ((j : ℕ) → k ≤ j → j < target → at < j * PIECE → has_part bytes (j * PIECE) ≡ false)
      → find (λ offset. nat_lt at offset) (filter (has_part bytes) (map (λ k. k * PIECE) (range_with_len k n))) ≡ Some (target * PIECE)
  found_first target zero k from to above has others = absurd (omega arith)
  found_first target (suc n) k from to above has others =
      let rest : List ℕ = filter (has_part bytes) (map (λ k. k * PIECE) (range_with_len (k + 1) n)) in
      ⊎_elim
      (λ (later : k < target).
      let next : find (λ offset. nat_lt at offset) rest ≡ Some (target * PIECE) = found_first target n (k + 1) (omega arith) (omega arith) above has (λ j low high lt. others j (omega arith) high lt) in
      elim (has_part bytes (k * PIECE)) as (λ b. has_part bytes (k * PIECE) ≡ b → find (λ offset. nat_lt at offset) (cond b (k * PIECE ∷ rest) rest) ≡ Some (target * PIECE)) [
        | true ↦ λ yes. elim (nat_lt at (k * PIECE)) as (λ b. nat_lt at (k * PIECE) ≡ b → cond b (Some (k * PIECE)) (find (λ offset. nat_lt at offset) rest) ≡ Some (target * PIECE)) [
          | true ↦ λ lt. let no : has_part bytes (k * PIECE) ≡ false = others k (omega arith) later ((Decides-ltb at (k * PIECE)).0 lt) in cc
          | false ↦ λ _. next
        ] refl
        | false ↦ λ _. next
      ] refl)
      (λ (here : target ≤ k).
      let same : target ≡ k = omega arith in
      let yes : has_part bytes (k * PIECE) ≡ true = subst (λ t. has_part bytes (t * PIECE) ≡ true) same has in
      let lt : nat_lt at (k * PIECE) ≡ true = (Decides-ltb at (k * PIECE)).1 (subst (λ t. at < t * PIECE) same above) in
      ap (λ b. find (λ offset. nat_lt at offset) (cond b (k * PIECE ∷ rest) rest)) yes
      ∙ ap (λ b. cond b (Some (k * PIECE)) (find (λ offset. nat_lt at offset) rest)) lt ∙ ap (λ t. Some (t * PIECE)) (sym same))
      (cases_lt k target)

  found_none : (n k : ℕ) → ((j : ℕ) → k ≤ j → j < k + n → at < j * PIECE → ⊥) → find (λ offset. nat_lt at offset) (filter (has_part bytes) (map (λ k. k * PIECE) (range_with_len k n))) ≡ None
  found_none zero k none = refl
  found_none (suc n) k none =
      let rest : List ℕ = filter (has_part bytes) (map (λ k. k * PIECE) (range_with_len (k + 1) n)) in
      let next : find (λ offset. nat_lt at offset) rest ≡ None = found_none n (k + 1) (λ j low high lt. none j (omega arith) (omega arith) lt) in
      elim (has_part bytes (k * PIECE)) as (λ b. find (λ offset. nat_lt at offset) (cond b (k * PIECE ∷ rest) rest) ≡ None) [
        | true ↦ elim (nat_lt at (k * PIECE)) as (λ b. nat_lt at (k * PIECE) ≡ b → cond b (Some (k * PIECE)) (find (λ offset. nat_lt at offset) rest) ≡ None) [
          | true ↦ λ lt. absurd (none k (omega arith) (omega arith) ((Decides-ltb at (k * PIECE)).0 lt))
          | false ↦ λ _. next
        ] refl
        | false ↦ next
      ]

pub next_none : (bytes : List ℕ) (at last : ℕ) → last ≡ (length bytes - 1) / 1048576 * 1048576 → last ≤ at → None ≡ find (λ offset. nat_lt at offset) (rest_offsets bytes)
next_none bytes at last is past = sym (found_none bytes at ((length bytes - 1) / 1048576) 1 (λ j low high lt. omega arith))

pub next_data : (bytes : List ℕ) (at last place : ℕ) → last ≡ (length bytes - 1) / 1048576 * 1048576 → at < last → (at / 1048576 + 1) * 1048576 ≤ place → slice_index bytes place ≢ 0 → IsHole bytes ((at / 1048576 + 1) * 1048576) place
    → Some (place / 1048576 * 1048576) ≡ find (λ offset. nat_lt at offset) (rest_offsets bytes)
next_data bytes at last place is more from some hole =
    let within : place < length bytes = inside in
    sym (found_first bytes at (place / 1048576) ((length bytes - 1) / 1048576) 1 (omega arith) (omega arith) (omega arith)
    (part_of_data bytes (place / 1048576 * 1048576) place (omega arith) (omega arith) some)
    (λ j low high lt. no_part bytes (j * 1048576) (omega arith) (λ i a b. hole i (omega arith) (omega arith))))
  where
    inside : place < length bytes
    inside = ⊎_elim (λ (yes : place < length bytes). yes) (λ (no : length bytes ≤ place). absurd (some (get_or_past bytes place 0 no))) (cases_lt place (length bytes))

pub next_last : (bytes : List ℕ) (at last : ℕ) → last ≡ (length bytes - 1) / 1048576 * 1048576 → at < last → IsHole bytes ((at / 1048576 + 1) * 1048576) (length bytes) → Some last ≡ find (λ offset. nat_lt at offset) (rest_offsets bytes)
next_last bytes at last is more hole =
    ap Some is ∙ sym (found_first bytes at ((length bytes - 1) / 1048576) ((length bytes - 1) / 1048576) 1 (omega arith) (omega arith) (omega arith)
    (last_part bytes ((length bytes - 1) / 1048576 * 1048576) (omega arith))
    (λ j low high lt. no_part bytes (j * 1048576) (omega arith) (λ i a b. hole i (omega arith) (omega arith))))

-- ---- a part is put after those before it

took : (bytes : List ℕ) (n k : ℕ) → k < n → get_or (take n bytes) k 0 ≡ get_or bytes k 0
took bytes n k h = grind (arith, common_steps)

left_out : (bytes : List ℕ) (n k : ℕ) → n ≤ k → get_or (take n bytes) k 0 ≡ 0
left_out bytes n k h = get_or_past (take n bytes) k 0 (let short : length (take n bytes) ≤ n = rw (length-take n bytes) (omega arith) in omega arith)

pub took_few : (bytes : List ℕ) (n : ℕ) → length (take n bytes) ≤ n
took_few bytes n = rw (length-take n bytes) (omega arith)

pub put_on : (bytes : List ℕ) (m offset : ℕ) → m ≤ offset → offset ≤ length bytes → IsHole bytes m offset → written (take m bytes) offset (piece bytes offset) ≡ take (offset + PIECE) bytes
put_on bytes m offset le within hole =
    sym (fill_by_all place (take (offset + PIECE) bytes) (max (length (take m bytes)) (offset + length (piece bytes offset))) 0 as_long same)
  where
    as_long : length (take (offset + PIECE) bytes) ≡ max (length (take m bytes)) (offset + length (piece bytes offset))
    as_long = rw (length-take (offset + PIECE) bytes, length-take m bytes, length-take PIECE (drop offset bytes), length-drop offset bytes) (omega (arith, le, within))

    reach : max (length (take m bytes)) (offset + length (piece bytes offset)) ≤ offset + length (piece bytes offset)
    reach = rw (length-take m bytes, length-take PIECE (drop offset bytes), length-drop offset bytes) (omega (arith, le, within))

    place : ℕ → ℕ
    place k = cond (nat_le offset k && nat_lt k (offset + length (piece bytes offset))) (slice_index (piece bytes offset) (k - offset)) (slice_index (take m bytes) k)

    same : (k : ℕ) → k < max (length (take m bytes)) (offset + length (piece bytes offset)) → get_or (take (offset + PIECE) bytes) k 0 ≡ place k
    same k h =
        let short : length (piece bytes offset) ≤ PIECE = length_piece bytes offset in
        let top : k < offset + length (piece bytes offset) = omega (arith, h, reach) in
        took bytes (offset + PIECE) k (omega arith) ∙ ⊎_elim
        (λ (before : k < offset).
        let test : (nat_le offset k && nat_lt k (offset + length (piece bytes offset))) ≡ false = ap (λ b. b && nat_lt k (offset + length (piece bytes offset))) (not_le offset k before) in
        ⊎_elim (λ (old : k < m). sym (took bytes m k old)) (λ (zero : m ≤ k). hole k zero before ∙ sym (left_out bytes m k zero)) (cases_lt k m)
        ∙ ap (λ b. cond b (slice_index (piece bytes offset) (k - offset)) (slice_index (take m bytes) k)) (sym test))
        (λ (from : offset ≤ k).
        let test : (nat_le offset k && nat_lt k (offset + length (piece bytes offset))) ≡ true = and_from (nat_le offset k) (nat_lt k (offset + length (piece bytes offset))) (le-leb offset k from) (lt-ltb k (offset + length (piece bytes offset)) top) in
        sym (reads bytes offset k from (omega arith)) ∙ ap (λ b. cond b (slice_index (piece bytes offset) (k - offset)) (slice_index (take m bytes) k)) (sym test))
        (cases_lt k offset)

-- ---- a piece is read

took_all : (ys : List ℕ) (n m : ℕ) → n ≡ min (length ys) m → take n ys ≡ take m ys
took_all ys n m is = ⊎_elim
    (λ (few : length ys < m). take_all n ys (omega arith) ∙ sym (take_all m ys (omega arith)))
    (λ (many : m ≤ length ys). let same : n ≡ m = omega arith in ap (λ k. take k ys) same)
    (cases_lt (length ys) m)

pub piece_read : (bytes old new : List ℕ) (offset count result : ℕ) → count ≡ min (length bytes - offset) PIECE → length old ≡ count → result ≡ length (take (length old) (drop offset bytes)) → new ≡ take (length old) (drop offset bytes) ++ drop result old → new ≡ piece bytes offset
piece_read bytes old new offset count result is long much read =
    let left : length (drop offset bytes) ≡ length bytes - offset = length-drop offset bytes in
    let all : take (length old) (drop offset bytes) ≡ piece bytes offset = took_all (drop offset bytes) (length old) PIECE (omega (arith, is, long, left)) in
    let few : length (take (length old) (drop offset bytes)) ≡ min (length old) (length (drop offset bytes)) = length-take (length old) (drop offset bytes) in
    let none : drop result old ≡ [] = drop_all result old (omega (arith, is, long, much, few, left)) in
    read ∙ ap (λ l. take (length old) (drop offset bytes) ++ l) none ∙ append-nil (take (length old) (drop offset bytes)) ∙ all

pub whole_buffer : (n : ℕ) (new items : List ℕ) → length new ≡ n → take n (new ++ drop (length new) items) ≡ new
whole_buffer n new items long = rw (take-append-le n new (drop (length new) items) (omega arith)) (take_all n new (omega arith))
