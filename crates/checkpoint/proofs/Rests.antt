-- The parts of an object after its first part, by rising offset.
use Rattle.std.proofs.Common.{◌≡◌, ℕ, zero, suc, ◌+◌, ◌-◌, ◌*◌, ◌/◌, ◌<◌, ◌≤◌, Bool, true, false, cond, List, [], ◌∷◌, ◌++◌, length, map, refl, sym, ◌∙◌, ap, subst, arith, append_assoc, Err, Some, None}
use Rattle.std.specs.Prelude.{Option, Result, IsSome, IfSome, slice_get, filter, find, nat_lt}
use Rattle.std.specs.List.{AllByRecursion, range_with_len}
use Rattle.std.specs.Option.{option_map_or}
use Rattle.std.proofs.lemmas.Bool.Decides.{nat_tests}
use Rattle.std.proofs.lemmas.List.{append-nil}
use Rattle.xdr_wire.specs.Xdr.{Value, HasSpelling, spelling}
use Rattle.node_tree.specs.World.{World, Object, object, bytes_of}
use Rattle.node_tree.specs.Sound.{Rises}
use Rattle.node_tree.proofs.Reading.{above_all, after_it}
use Rattle.tree_parts.specs.Parts.{PIECE, part, piece, has_part, rest_offsets, rest_value, first_value, object_parts}
use Rattle.store_journal.specs.declared.journal.Journal.{Journal}
use Rattle.store_journal.specs.Disk.{Bytes}
use Rattle.store_journal.specs.Passage.{Adding, passage}
use Rattle.checkpoint.specs.declared.fault.WriteFault.{WriteFault}
use Rattle.checkpoint.specs.declared.fault.WriteFault.TheVariants.{Memory}
use Rattle.checkpoint.specs.Writing.{PartsGiven, PartsEnd}
use Rattle.checkpoint.specs.internal.Writing.{counted, parts_at, rests_at}
use Rattle.checkpoint.proofs.Putting.{all_push, counted_then, ends_as, ends_more, ends_stop, ends_then, given_none, given_then, map_append, map_push, rises_below}

map_twice : {X Y Z : Type 0} (g : Y → Z) (f : X → Y) (xs : List X) → map g (map f xs) ≡ map (λ x. g (f x)) xs
map_twice g f [] = refl
map_twice g f (x ∷ xs) = ap (λ (l : List _). g (f x) ∷ l) (map_twice g f xs)

-- offsets of parts rise
offsets_rise : (p : ℕ → Bool) (n k low high : ℕ) → low ≤ k * PIECE → (k + n) * PIECE ≤ high → Rises (λ x. x) low (filter p (map (λ j. j * PIECE) (range_with_len k n))) high
offsets_rise p zero k low high from to = omega (arith, from, to)
offsets_rise p (suc n) k low high from to =
    let rest : List ℕ = filter p (map (λ j. j * PIECE) (range_with_len (k + 1) n)) in
    let more : (k + 1 + n) * PIECE ≤ high = omega (arith, to) in
    let next : k * PIECE + 1 ≤ (k + 1) * PIECE = omega arith in
    let later : low ≤ (k + 1) * PIECE = omega (arith, from) in
    elim (p (k * PIECE)) as (λ b. Rises (λ x. x) low (cond b (k * PIECE ∷ rest) rest) high) [
      | true ↦ (from, offsets_rise p n (k + 1) (k * PIECE + 1) high next more)
      | false ↦ offsets_rise p n (k + 1) low high later more
    ]

-- the parts of an object after the first
module _ (w : World) (number : ℕ) where
  abbrev offsets : List ℕ
  offsets = rest_offsets (bytes_of w number)

  abbrev value : ℕ → Value part
  value offset = rest_value number offset (piece (bytes_of w number) offset)

  abbrev bytes_at : ℕ → Bytes
  bytes_at offset = spelling part (value offset)

  abbrev Has : ℕ → Type 0
  Has offset = HasSpelling part (value offset)

  -- an offset above all of them
  abbrev pub end : ℕ
  end = (1 + (length (bytes_of w number) - 1) / PIECE) * PIECE

  rising : Rises (λ x. x) 1 offsets end
  rising =
      let from : 1 ≤ 1 * PIECE = omega arith in
      let to : (1 + (length (bytes_of w number) - 1) / PIECE) * PIECE ≤ end = omega arith in
      offsets_rise (has_part (bytes_of w number)) ((length (bytes_of w number) - 1) / PIECE) 1 1 end from to

  all_bytes : map bytes_at offsets ≡ map (spelling part) (rests_at w number)
  all_bytes = sym (map_twice (spelling part) value offsets)

  have_map : (xs : List ℕ) → AllByRecursion Has xs → AllByRecursion (HasSpelling part) (map value xs)
  have_map [] all = tt
  have_map (x ∷ xs) all = (all.0, have_map xs all.1)

  -- the parts before a place were written
  pub record RestsPut {D : Type 0} (adds : Adding D) (at : ℕ) (c c' : Journal) (size size' : ℕ) (old new : D) : Type 0 where
    pub before : List ℕ
    pub left : List ℕ
    pub are : offsets ≡ before ++ left
    pub next : find (λ x. nat_lt at x) offsets ≡ slice_get left 0
    pub have : AllByRecursion Has before
    pub given : PartsGiven (passage adds old new) c (map bytes_at before) c'
    pub size_is : size' ≡ counted size (map bytes_at before)

  pub rests_begun : {D : Type 0} (adds : Adding D) (c : Journal) (size : ℕ) (d : D) → RestsPut adds 0 c c size size d d
  rests_begun adds c size d = record { before = []; left = offsets; are = refl; next = above_all (λ x. x) 1 end 0 offsets rising (let goal : 0 < 1 = omega arith in goal); have = tt; given = given_none adds c d; size_is = refl }

  -- the offset that comes next
  record NextOffset (left : List ℕ) (offset : ℕ) : Type 0 where
    rest : List ℕ
    is : left ≡ offset ∷ rest

  next_offset : (left : List ℕ) (offset : ℕ) → slice_get left 0 ≡ Some offset → NextOffset left offset
  next_offset [] offset some = absurd (never some)
    where
      never : None ≡ Some offset → ⊥
      never e = cc
  next_offset (x ∷ rest) offset some =
      let same : x ≡ offset = cc in
      record { rest = rest; is = ap (λ (n : ℕ). n ∷ rest) same }

  module _ {D : Type 0} (adds : Adding D) (at : ℕ) (c c' : Journal) (size size' : ℕ) (old mid : D) (so_far : RestsPut adds at c c' size size' old mid) where
    -- one part more
    pub rest_put : (offset : ℕ) (c'' : Journal) (size'' : ℕ) (bytes : Bytes) (new : D) → size'' ≡ counted size' (bytes ∷ []) → find (λ x. nat_lt at x) offsets ≡ Some offset → bytes ≡ bytes_at offset → Has offset → PartsGiven (passage adds mid new) c' (bytes ∷ []) c'' → RestsPut adds offset c c'' size size'' old new
    rest_put offset c'' size'' bytes new sized some is has one =
        let n = next_offset so_far.left offset (sym so_far.next ∙ some) in
        let are : offsets ≡ so_far.before ++ offset ∷ n.rest = so_far.are ∙ ap (λ (l : List ℕ). so_far.before ++ l) n.is in
        record {
          before = so_far.before ++ offset ∷ [];
          left = n.rest;
          are = are ∙ sym (append_assoc so_far.before (offset ∷ []) n.rest);
          next = ap (find (λ x. nat_lt offset x)) are ∙ after_it (λ x. x) 1 end so_far.before n.rest offset (subst (λ (l : List ℕ). Rises (λ x. x) 1 l end) are rising);
          have = all_push Has so_far.before offset so_far.have has;
          given = subst (λ (l : List Bytes). PartsGiven (passage adds old new) c l c'') (sym (map_push bytes_at so_far.before offset))
              (given_then adds c c' c'' (map bytes_at so_far.before) (bytes_at offset ∷ []) old mid new so_far.given (subst (λ (b : Bytes). PartsGiven (passage adds mid new) c' (b ∷ []) c'') is one));
          size_is = sized ∙ ap (λ (b : Bytes). counted size' (b ∷ [])) is ∙ ap (λ (k : ℕ). counted k (bytes_at offset ∷ [])) so_far.size_is
              ∙ sym (counted_then size (map bytes_at so_far.before) (bytes_at offset ∷ [])) ∙ ap (counted size) (sym (map_push bytes_at so_far.before offset));
        }

    -- the next part isn't written
    pub rest_stop : (offset : ℕ) (c'' : Journal) (bytes : Bytes) (fault : WriteFault) (new : D) → find (λ x. nat_lt at x) offsets ≡ Some offset → bytes ≡ bytes_at offset → PartsEnd (passage adds mid new) c' (bytes ∷ []) (Err fault) c'' → PartsEnd (passage adds old new) c (map (spelling part) (rests_at w number)) (Err fault) c''
    rest_stop offset c'' bytes fault new some is one =
        let n = next_offset so_far.left offset (sym so_far.next ∙ some) in
        let before : List Bytes = map bytes_at so_far.before in
        let rest : List Bytes = map bytes_at n.rest in
        let all : before ++ bytes_at offset ∷ rest ≡ map bytes_at offsets = sym (map_append bytes_at so_far.before (offset ∷ n.rest)) ∙ ap (map bytes_at) (sym (so_far.are ∙ ap (λ (l : List ℕ). so_far.before ++ l) n.is)) in
        ends_as adds c c'' ((before ++ bytes_at offset ∷ []) ++ rest) (map (spelling part) (rests_at w number)) (Err fault) old new (append_assoc before (bytes_at offset ∷ []) rest ∙ all ∙ all_bytes)
        (ends_more adds c c'' (before ++ bytes_at offset ∷ []) rest fault old new
        (ends_then adds c c' c'' before (bytes_at offset ∷ []) (Err fault) old mid new so_far.given (subst (λ (b : Bytes). PartsEnd (passage adds mid new) c' (b ∷ []) (Err fault) c'') is one)))

    -- an allocation fails for the next part
    pub rests_stop : PartsEnd (passage adds old mid) c (map (spelling part) (rests_at w number)) (Err Memory) c'
    rests_stop =
        ends_as adds c c' (map bytes_at so_far.before ++ map bytes_at so_far.left) (map (spelling part) (rests_at w number)) (Err Memory) old mid (sym (map_append bytes_at so_far.before so_far.left) ∙ ap (map bytes_at) (sym so_far.are) ∙ all_bytes)
        (ends_stop adds c c' (map bytes_at so_far.before) (map bytes_at so_far.left) old mid so_far.given)

    no_offset_left : (left : List ℕ) → slice_get left 0 ≡ None → left ≡ []
    no_offset_left [] is = refl
    no_offset_left (x ∷ left) is = absurd (never is)
      where
        never : Some x ≡ None → ⊥
        never e = cc

    -- no part is left
    module _ (none : find (λ x. nat_lt at x) offsets ≡ None) where
      all_put : so_far.before ≡ offsets
      all_put = sym (so_far.are ∙ ap (λ (l : List ℕ). so_far.before ++ l) (no_offset_left so_far.left (sym so_far.next ∙ none)) ∙ append-nil so_far.before)

      are_all : map bytes_at so_far.before ≡ map (spelling part) (rests_at w number)
      are_all = ap (map bytes_at) all_put ∙ all_bytes

      pub rests_given : PartsGiven (passage adds old mid) c (map (spelling part) (rests_at w number)) c'
      rests_given = subst (λ (l : List Bytes). PartsGiven (passage adds old mid) c l c') are_all so_far.given

      pub rests_have : AllByRecursion (HasSpelling part) (rests_at w number)
      rests_have = have_map offsets (subst (AllByRecursion Has) all_put so_far.have)

      pub rests_size : size' ≡ counted size (map (spelling part) (rests_at w number))
      rests_size = so_far.size_is ∙ ap (counted size) are_all

    later_offset : (xs : List ℕ) (offset : ℕ) → find (λ x. nat_lt at x) xs ≡ Some offset → at < offset
    later_offset [] offset is = absurd (never is)
      where
        never : None ≡ Some offset → ⊥
        never e = cc
    later_offset (x ∷ xs) offset is =
        elim (nat_lt at x) as (λ b. nat_lt at x ≡ b → cond b (Some x) (find (λ x. nat_lt at x) xs) ≡ Some offset → at < offset) [
          | true ↦ λ test some.
              let less : at < x = grind (arith, nat_tests, test) in
              let same : x ≡ offset = cc in
              subst (λ (n : ℕ). at < n) same less
          | false ↦ λ test some. later_offset xs offset some
        ] refl is

    -- the next offset is closer to the last
    pub offset_closer : (offset : ℕ) → find (λ x. nat_lt at x) offsets ≡ Some offset → (at < offset) × (offset < end)
    offset_closer offset some =
        let n = next_offset so_far.left offset (sym so_far.next ∙ some) in (
          later_offset offsets offset some,
          rises_below (λ (x : ℕ). x) 1 end so_far.before offset n.rest (subst (λ (l : List ℕ). Rises (λ x. x) 1 l end) (so_far.are ∙ ap (λ (l : List ℕ). so_far.before ++ l) n.is) rising),
        )

-- ---- all parts of an object

pub there : (x : Option Object) → IsSome x → (o : Object) × (x ≡ Some o)
there (Some o) some = (o, refl)
there None some = absurd (never some)
  where
    never : false ≡ true → ⊥
    never e = cc

pub of_there : (P : Object → Type 0) (x : Option Object) (o : Object) → x ≡ Some o → IfSome x P → P o
of_there P x o is it = subst (λ (y : Option Object). IfSome y P) is it

-- the first part of an object has its first bytes
module _ (w : World) (number : ℕ) (o : Object) (is : object w number ≡ Some o) where
  first_and_rests : first_value number o ∷ rests_at w number ≡ parts_at w number
  first_and_rests =
      ap (λ (b : List ℕ). first_value number o ∷ map (λ offset. rest_value number offset (piece b offset)) (rest_offsets b)) (ap (λ (x : Option Object). option_map_or (λ (o : Object). o.bytes) x []) is)
      ∙ sym (ap (λ (x : Option Object). option_map_or (object_parts number) x []) is)

  pub object_has : HasSpelling part (first_value number o) → AllByRecursion (HasSpelling part) (rests_at w number) → AllByRecursion (HasSpelling part) (parts_at w number)
  object_has first rests = subst (AllByRecursion (HasSpelling part)) first_and_rests (first, rests)

  module _ (bytes : Bytes) (first : bytes ≡ spelling part (first_value number o)) where
    pub object_size : (size size' size'' : ℕ) → size' ≡ counted size (bytes ∷ []) → size'' ≡ counted size' (map (spelling part) (rests_at w number)) → size'' ≡ counted size (map (spelling part) (parts_at w number))
    object_size size size' size'' one more =
        more ∙ ap (λ (n : ℕ). counted n (map (spelling part) (rests_at w number))) (one ∙ ap (λ (b : Bytes). counted size (b ∷ [])) first)
        ∙ ap (λ (l : List (Value part)). counted size (map (spelling part) l)) first_and_rests

    module _ {D : Type 0} (adds : Adding D) (c c' : Journal) where
      pub object_ends : (c'' : Journal) (result : Result (Unit {0}) WriteFault) (old mid new : D) → PartsGiven (passage adds old mid) c (bytes ∷ []) c' → PartsEnd (passage adds mid new) c' (map (spelling part) (rests_at w number)) result c'' → PartsEnd (passage adds old new) c (map (spelling part) (parts_at w number)) result c''
      object_ends c'' result old mid new one more =
          subst (λ (l : List (Value part)). PartsEnd (passage adds old new) c (map (spelling part) l) result c'') first_and_rests
          (ends_then adds c c' c'' (spelling part (first_value number o) ∷ []) (map (spelling part) (rests_at w number)) result old mid new
          (subst (λ (b : Bytes). PartsGiven (passage adds old mid) c (b ∷ []) c') first one) more)

      pub object_refused : (fault : WriteFault) (old new : D) → PartsEnd (passage adds old new) c (bytes ∷ []) (Err fault) c' → PartsEnd (passage adds old new) c (map (spelling part) (parts_at w number)) (Err fault) c'
      object_refused fault old new one =
          subst (λ (l : List (Value part)). PartsEnd (passage adds old new) c (map (spelling part) l) (Err fault) c') first_and_rests
          (ends_more adds c c' (spelling part (first_value number o) ∷ []) (map (spelling part) (rests_at w number)) fault old new
          (subst (λ (b : Bytes). PartsEnd (passage adds old new) c (b ∷ []) (Err fault) c') first one))
