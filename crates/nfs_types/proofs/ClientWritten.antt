-- The values that a client writes are read back as these values.
use Rattle.std.proofs.Common.{◌≡◌, ◌∙◌, ℕ, ◌+◌, Bool, true, false, cond, ◌&&◌, nat_eq, List, [], ◌∷◌, ◌++◌, Option, Some, None, is_some, Ok, bit_and, refl, sym, arith}
use Rattle.std.specs.Int.{bit_at, bit_not, w32}
use Rattle.std.proofs.lemmas.Bool.{and_parts, eqb-true}
use Rattle.xdr_wire.specs.Xdr.{Xdr, Value, uint, hyper, spelling}
use Rattle.xdr_wire.proofs.Spelling.{again, spelled}
use Rattle.nfs_types.specs.Forms.{trimmed}
use Rattle.nfs_types.specs.Sets.{has_number}
use Rattle.nfs_types.specs.Attributes.{text, acl, acl41, is_within}
use Rattle.nfs_types.specs.Sent.{chosen_at}
use Rattle.nfs_types.specs.Seen.{Seen, seen_words, seen_of, optional_spelling, client_set, client_values}
use Rattle.nfs_types.specs.Times.{settime}
use Rattle.nfs_types.specs.Sendable.{CanBeSent, IsSendable}
use Rattle.nfs_types.proofs.Numbers.{by_word}
use Rattle.nfs_types.proofs.Within.{StayBelow, one_word, all_words}

-- a value that is there, or none, is read back
sent_again : (there : Bool) (t : Xdr) (o : Option (Value t)) (rest : List ℕ) → there ≡ is_some o → CanBeSent t o → chosen_at there t (optional_spelling t o ++ rest) ≡ Ok (o, rest)
sent_again there t None rest is can = rw is refl
sent_again there t (Some v) rest is can = rw (is, again t v (spelling t v) rest (spelled t v can)) refl

-- ---- the set, for each choice of the values that are there

abbrev first_word : Bool → Bool → Bool → Bool → ℕ
first_word a b c d = cond a 2 0 + cond b 16 0 + cond c 2048 0 + cond d 4096 0

abbrev second_word : Bool → Bool → Bool → Bool → Bool → Bool → Bool → ℕ
second_word e f g h i j k =
    cond e 2 0 + cond f 16 0 + cond g 32 0 + cond h 0x1_0000 0 + cond i 0x40_0000 0 + cond j 0x400_0000 0 + cond k 0x800_0000 0

abbrev words_of : Bool → Bool → Bool → Bool → Bool → Bool → Bool → Bool → Bool → Bool → Bool → List ℕ
words_of a b c d e f g h i j k = first_word a b c d ∷ second_word e f g h i j k ∷ []

abbrev same : Bool → Bool → Bool
same true b = b
same false true = false
same false false = true

are_same : (a b : Bool) → same a b ≡ true → a ≡ b
are_same true true e = refl
are_same true false e = sym e
are_same false true e = e
are_same false false e = refl

abbrev is_set : ℕ → ℕ → Bool
is_set word i = nat_eq (bit_at word i) 1

-- a word has the bits of the values that are there, and otherwise only bits that a client knows
abbrev first_test : Bool → Bool → Bool → Bool → Bool
first_test a b c d =
    let word = first_word a b c d in
    same (is_set word 1) a && (same (is_set word 4) b && (same (is_set word 11) c && (same (is_set word 12) d && nat_eq (bit_and word (bit_not w32 0x1812)) 0)))

abbrev second_test : Bool → Bool → Bool → Bool → Bool → Bool → Bool → Bool
second_test e f g h i j k =
    let word = second_word e f g h i j k in
    same (is_set word 1) e && (same (is_set word 4) f && (same (is_set word 5) g
    && (same (is_set word 16) h && (same (is_set word 22) i
    && (same (is_set word 26) j && (same (is_set word 27) k && nat_eq (bit_and word (bit_not w32 0xc41_0032)) 0))))))

abbrev each : (Bool → Bool) → Bool
each p = p true && p false

at : (p : Bool → Bool) → each p ≡ true → (b : Bool) → p b ≡ true
at p h true = (and_parts (p true) (p false) h).0
at p h false = (and_parts (p true) (p false) h).1

every_first : each (λ a. each (λ b. each (λ c. each (λ d. first_test a b c d)))) ≡ true
every_first = refl

every_second : each (λ e. each (λ f. each (λ g. each (λ h. each (λ i. each (λ j. each (λ k. second_test e f g h i j k))))))) ≡ true
every_second = refl

first_tested : (a b c d : Bool) → first_test a b c d ≡ true
first_tested a b c d =
    at (λ d. first_test a b c d)
    (at (λ c. each (λ d. first_test a b c d))
    (at (λ b. each (λ c. each (λ d. first_test a b c d)))
    (at (λ a. each (λ b. each (λ c. each (λ d. first_test a b c d)))) every_first a) b) c) d

second_tested : (e f g h i j k : Bool) → second_test e f g h i j k ≡ true
second_tested e f g h i j k =
    at (λ k. second_test e f g h i j k)
    (at (λ j. each (λ k. second_test e f g h i j k))
    (at (λ i. each (λ j. each (λ k. second_test e f g h i j k)))
    (at (λ h. each (λ i. each (λ j. each (λ k. second_test e f g h i j k))))
    (at (λ g. each (λ h. each (λ i. each (λ j. each (λ k. second_test e f g h i j k)))))
    (at (λ f. each (λ g. each (λ h. each (λ i. each (λ j. each (λ k. second_test e f g h i j k))))))
    (at (λ e. each (λ f. each (λ g. each (λ h. each (λ i. each (λ j. each (λ k. second_test e f g h i j k))))))) every_second e) f) g) h) i) j) k

record First (word : ℕ) (a b c d : Bool) : Type 0 where
  kind : is_set word 1 ≡ a
  size : is_set word 4 ≡ b
  error : is_set word 11 ≡ c
  entries : is_set word 12 ≡ d
  known : bit_and word (bit_not w32 0x1812) ≡ 0

first_has : (a b c d : Bool) → First (first_word a b c d) a b c d
first_has a b c d =
    let word = first_word a b c d in
    let p = and_parts (same (is_set word 1) a) _ (first_tested a b c d) in
    let q = and_parts (same (is_set word 4) b) _ p.1 in
    let r = and_parts (same (is_set word 11) c) _ q.1 in
    let s = and_parts (same (is_set word 12) d) (nat_eq (bit_and word (bit_not w32 0x1812)) 0) r.1 in
    record {
      kind = are_same (is_set word 1) a p.0;
      size = are_same (is_set word 4) b q.0;
      error = are_same (is_set word 11) c r.0;
      entries = are_same (is_set word 12) d s.0;
      known = eqb-true (bit_and word (bit_not w32 0x1812)) 0 s.1;
    }

record Second (word : ℕ) (e f g h i j k : Bool) : Type 0 where
  mode : is_set word 1 ≡ e
  owner : is_set word 4 ≡ f
  group : is_set word 5 ≡ g
  access : is_set word 16 ≡ h
  modify : is_set word 22 ≡ i
  dacl : is_set word 26 ≡ j
  sacl : is_set word 27 ≡ k
  known : bit_and word (bit_not w32 0xc41_0032) ≡ 0

second_has : (e f g h i j k : Bool) → Second (second_word e f g h i j k) e f g h i j k
second_has e f g h i j k =
    let word = second_word e f g h i j k in
    let p = and_parts (same (is_set word 1) e) _ (second_tested e f g h i j k) in
    let q = and_parts (same (is_set word 4) f) _ p.1 in
    let r = and_parts (same (is_set word 5) g) _ q.1 in
    let s = and_parts (same (is_set word 16) h) _ r.1 in
    let t = and_parts (same (is_set word 22) i) _ s.1 in
    let u = and_parts (same (is_set word 26) j) _ t.1 in
    let v = and_parts (same (is_set word 27) k) (nat_eq (bit_and word (bit_not w32 0xc41_0032)) 0) u.1 in
    record {
      mode = are_same (is_set word 1) e p.0;
      owner = are_same (is_set word 4) f q.0;
      group = are_same (is_set word 5) g r.0;
      access = are_same (is_set word 16) h s.0;
      modify = are_same (is_set word 22) i t.0;
      dacl = are_same (is_set word 26) j u.0;
      sacl = are_same (is_set word 27) k v.0;
      known = eqb-true (bit_and word (bit_not w32 0xc41_0032)) 0 v.1;
    }

-- a set of two words that has only known attributes
known_within : (one two : ℕ) → bit_and one (bit_not w32 0x1812) ≡ 0 → bit_and two (bit_not w32 0xc41_0032) ≡ 0 → is_within (trimmed (one ∷ two ∷ [])) seen_words ≡ true
known_within one two p q =
    let ws = one ∷ two ∷ [] in
    let none : StayBelow ws seen_words 0 = λ n lt. absurd (omega (arith, lt)) in
    let h1 : StayBelow ws seen_words 1 = one_word ws seen_words 0 (omega arith) p none in
    let h2 : StayBelow ws seen_words 2 = one_word ws seen_words 1 (omega arith) q h1 in
    let h3 : StayBelow ws seen_words 3 = one_word ws seen_words 2 (omega arith) refl h2 in
    let h4 : StayBelow ws seen_words 4 = one_word ws seen_words 3 (omega arith) refl h3 in
    let h5 : StayBelow ws seen_words 5 = one_word ws seen_words 4 (omega arith) refl h4 in
    let h6 : StayBelow ws seen_words 6 = one_word ws seen_words 5 (omega arith) refl h5 in
    let h7 : StayBelow ws seen_words 7 = one_word ws seen_words 6 (omega arith) refl h6 in
    let h8 : StayBelow ws seen_words 8 = one_word ws seen_words 7 (omega arith) refl h7 in
    all_words ws seen_words 8 (omega arith) h8

record Has (set : List ℕ) (a b c d e f g h i j k : Bool) : Type 0 where
  kind : has_number set 1 ≡ a
  size : has_number set 4 ≡ b
  error : has_number set 11 ≡ c
  entries : has_number set 12 ≡ d
  mode : has_number set 33 ≡ e
  owner : has_number set 36 ≡ f
  group : has_number set 37 ≡ g
  access : has_number set 48 ≡ h
  modify : has_number set 54 ≡ i
  dacl : has_number set 58 ≡ j
  sacl : has_number set 59 ≡ k
  within : is_within set seen_words ≡ true

has : (a b c d e f g h i j k : Bool) → Has (trimmed (words_of a b c d e f g h i j k)) a b c d e f g h i j k
has a b c d e f g h i j k =
    let words = words_of a b c d e f g h i j k in
    let one = first_has a b c d in
    let two = second_has e f g h i j k in
    record {
      kind = by_word words 1 ∙ one.kind;
      size = by_word words 4 ∙ one.size;
      error = by_word words 11 ∙ one.error;
      entries = by_word words 12 ∙ one.entries;
      mode = by_word words 33 ∙ two.mode;
      owner = by_word words 36 ∙ two.owner;
      group = by_word words 37 ∙ two.group;
      access = by_word words 48 ∙ two.access;
      modify = by_word words 54 ∙ two.modify;
      dacl = by_word words 58 ∙ two.dacl;
      sacl = by_word words 59 ∙ two.sacl;
      within = known_within (first_word a b c d) (second_word e f g h i j k) one.known two.known;
    }

pub written_seen : (s : Seen) → IsSendable s → seen_of (client_set s) (client_values s) ≡ Ok s
unfolding client_values
written_seen s can =
    let set = client_set s in
    let there = has (is_some s.kind) (is_some s.size) (is_some s.error) (is_some s.entries) (is_some s.mode) (is_some s.owner) (is_some s.group) (is_some s.access) (is_some s.modify) (is_some s.dacl) (is_some s.sacl) in
    let k = optional_spelling acl41 s.sacl ++ [] in
    let j = optional_spelling acl41 s.dacl ++ k in
    let i = optional_spelling settime s.modify ++ j in
    let h = optional_spelling settime s.access ++ i in
    let g = optional_spelling text s.group ++ h in
    let f = optional_spelling text s.owner ++ g in
    let e = optional_spelling uint s.mode ++ f in
    let d = optional_spelling acl s.entries ++ e in
    let c = optional_spelling uint s.error ++ d in
    let b = optional_spelling hyper s.size ++ c in
    rw (
      there.within,
      sent_again (has_number set 1) uint s.kind b there.kind can.kind,
      sent_again (has_number set 4) hyper s.size c there.size can.size,
      sent_again (has_number set 11) uint s.error d there.error can.error,
      sent_again (has_number set 12) acl s.entries e there.entries can.entries,
      sent_again (has_number set 33) uint s.mode f there.mode can.mode,
      sent_again (has_number set 36) text s.owner g there.owner can.owner,
      sent_again (has_number set 37) text s.group h there.group can.group,
      sent_again (has_number set 48) settime s.access i there.access can.access,
      sent_again (has_number set 54) settime s.modify j there.modify can.modify,
      sent_again (has_number set 58) acl41 s.dacl k there.dacl can.dacl,
      sent_again (has_number set 59) acl41 s.sacl [] there.sacl can.sacl,
    ) refl
