-- The parts of a sound world are taken again, in order, and give that world.
use Rattle.std.proofs.Common.{◌≡◌, ◌≢◌, ℕ, zero, suc, ◌+◌, ◌-◌, ◌*◌, ◌/◌, ◌<◌, ◌≤◌, Bool, true, false, not, cond, ◌&&◌, ◌||◌, List, [], ◌∷◌, ◌++◌, length, map, refl, ap, sym, ◌∙◌, subst, arith, Some, None, inl, inr, length-append, append-nil, take}
use Rattle.std.specs.Prelude.{Option, IsSome, is_some, ◌==◌, find, nat_le, nat_lt, count_by, filter}
use Rattle.std.specs.Ordering.{nat_cmp}
use Rattle.std.specs.Map.{lookup, set_value, keys_of}
use Rattle.std.specs.BTreeMap.{is_at}
use Rattle.std.specs.List.{list_any, list_all, flat_map, range_with_len}
use Rattle.std.specs.Option.{option_map, option_map_or}
use Rattle.std.proofs.Math.Logic.{⊎_elim}
use Rattle.std.proofs.lemmas.Bool.{and_from, le-leb, lt-ltb, not_from_false, false_from_ne_true, cases_lt}
use Rattle.std.proofs.lemmas.Bool.Decides.{Decides-eqb}
use Rattle.std.proofs.lemmas.List.{append_assoc, length-map, take_all}
use Rattle.std.proofs.lemmas.List.Sums.{sum_by-append, sum_by-cons, length-filter, count_by-le-length}
use Rattle.std.proofs.lemmas.Map.Made.{is_some-lookup}
use Rattle.acl_list.specs.declared.entry.Kind.{Kind}
use Rattle.acl_list.specs.declared.entry.Kind.TheVariants.{File, Directory, Link}
use Rattle.acl_shape.specs.Inherited.{is_directory}
use Rattle.acl_shape.specs.Bounds.{fits, keeps}
use Rattle.xdr_wire.specs.Xdr.{Value}
use Rattle.nfs_types.specs.Limits.{Limits}
use Rattle.node_tree.specs.Limits.{ROOT, MAX_NAME}
use Rattle.node_tree.specs.World.{World, Object, Name, object, kind_of, child_named, is_directory_at, is_named, has_name, name_count, link_count, parent_of, is_file, is_file_at, bytes_of}
use Rattle.node_tree.specs.Changes.{changed, written}
use Rattle.node_tree.specs.Holes.{IsHole}
use Rattle.node_tree.specs.Refusals.{has_room, may_link}
use Rattle.node_tree.specs.Sound.{IsIn, Climbs, IsRooted, IsSound, Rises, most_bytes}
use Rattle.node_tree.specs.Restored.{Begun, begun, counters_fit, has_stamp, is_fit, object_fits, child_fits, name_fits, climbs_to_root, is_placed, is_whole, with_object, with_more, with_name, more_fits}
use Rattle.node_tree.proofs.Objects.{is_same, is_at-same, is_at-apart}
use Rattle.node_tree.proofs.Names.{found, not_found, any_passes, in_prefix, child_sought, named_directory, named_name, names_counted}
use Rattle.node_tree.proofs.Moving.{parents_of, directory_at}
use Rattle.node_tree.proofs.Restorable.{at_root, one_up, all_left}
use Rattle.nfs_types.specs.MomentView.{moment_value}
use Rattle.tree_parts.specs.Parts.{part, plain_value, name_value, rest_value, object_parts, PIECE, piece, has_part, rest_offsets}
use Rattle.tree_parts.specs.Taken.{TakesAll}
use Rattle.tree_parts.specs.Again.{IsTakenAgain}
use Rattle.tree_parts.proofs.Pieces.{length_within, skipped, put_on, took_few}
use Rattle.tree_parts.proofs.Writing.{object_takes}

-- ---- places in a list whose keys rise

rises_from : {X : Type 0} (key : X → ℕ) (low high : ℕ) (xs : List X) → Rises key low xs high → low ≤ high
rises_from key low high [] rises = rises
rises_from key low high (x ∷ xs) rises = let a : low ≤ key x = rises.0 in let b : key x + 1 ≤ high = rises_from key (key x + 1) high xs rises.1 in omega arith

rises_to : {X : Type 0} (key : X → ℕ) (low high : ℕ) (prefix : List X) (x : X) (back : List X) → Rises key low (prefix ++ x ∷ back) high → low ≤ key x
rises_to key low high [] x back rises = rises.0
rises_to key low high (y ∷ prefix) x back rises = let a : low ≤ key y = rises.0 in let b : key y + 1 ≤ key x = rises_to key (key y + 1) high prefix x back rises.1 in omega arith

rises_past : {X : Type 0} (key : X → ℕ) (low high : ℕ) (prefix : List X) (x : X) (back : List X) → Rises key low (prefix ++ x ∷ back) high → Rises key (key x + 1) back high
rises_past key low high [] x back rises = rises.1
rises_past key low high (y ∷ prefix) x back rises = rises_past key (key y + 1) high prefix x back rises.1

-- the item of a number is found at its place
is_at_place : (low high : ℕ) (prefix : List (ℕ × Object)) (e : ℕ × Object) (back : List (ℕ × Object)) → Rises (λ e. e.0) low (prefix ++ e ∷ back) high → lookup (is_at (nat_cmp e.0)) (prefix ++ e ∷ back) ≡ Some e.1
is_at_place low high [] e back rises = ap (λ b. cond b (Some e.1) (lookup (is_at (nat_cmp e.0)) back)) (is_at-same e.0)
is_at_place low high (y ∷ prefix) e back rises =
    let above : y.0 + 1 ≤ e.0 = rises_to (λ (e : ℕ × Object). e.0) (y.0 + 1) high prefix e back rises.1 in
    ap (λ b. cond b (Some y.1) (lookup (is_at (nat_cmp e.0)) (prefix ++ e ∷ back))) (is_at-apart e.0 y.0 (λ same. absurd (omega (arith, above, same))))
    ∙ is_at_place (y.0 + 1) high prefix e back rises.1

-- the last object so far is found by its number, and changed
last_found : (low high : ℕ) (prefix : List (ℕ × Object)) (e : ℕ × Object) (back : List (ℕ × Object)) (o : Object) → Rises (λ e. e.0) low (prefix ++ e ∷ back) high → lookup (is_at (nat_cmp e.0)) (prefix ++ (e.0, o) ∷ []) ≡ Some o
last_found low high [] e back o rises = ap (λ b. cond b (Some o) None) (is_at-same e.0)
last_found low high (y ∷ prefix) e back o rises =
    let above : y.0 + 1 ≤ e.0 = rises_to (λ (e : ℕ × Object). e.0) (y.0 + 1) high prefix e back rises.1 in
    ap (λ b. cond b (Some y.1) (lookup (is_at (nat_cmp e.0)) (prefix ++ (e.0, o) ∷ []))) (is_at-apart e.0 y.0 (λ same. absurd (omega (arith, above, same))))
    ∙ last_found (y.0 + 1) high prefix e back o rises.1

last_set : (low high : ℕ) (prefix : List (ℕ × Object)) (e : ℕ × Object) (back : List (ℕ × Object)) (o new : Object) → Rises (λ e. e.0) low (prefix ++ e ∷ back) high → set_value (is_at (nat_cmp e.0)) (prefix ++ (e.0, o) ∷ []) new ≡ prefix ++ (e.0, new) ∷ []
last_set low high [] e back o new rises = ap (λ b. cond b ((e.0, new) ∷ []) ((e.0, o) ∷ [])) (is_at-same e.0)
last_set low high (y ∷ prefix) e back o new rises =
    let above : y.0 + 1 ≤ e.0 = rises_to (λ (e : ℕ × Object). e.0) (y.0 + 1) high prefix e back rises.1 in
    ap (λ b. cond b ((y.0, new) ∷ (prefix ++ (e.0, o) ∷ [])) (y ∷ set_value (is_at (nat_cmp e.0)) (prefix ++ (e.0, o) ∷ []) new)) (is_at-apart e.0 y.0 (λ same. absurd (omega (arith, above, same))))
    ∙ ap (λ (l : List (ℕ × Object)). y ∷ l) (last_set (y.0 + 1) high prefix e back o new rises.1)

last_changed : (low high : ℕ) (prefix : List (ℕ × Object)) (e : ℕ × Object) (back : List (ℕ × Object)) (o : Object) (f : Object → Object) → Rises (λ e. e.0) low (prefix ++ e ∷ back) high → changed e.0 f (prefix ++ (e.0, o) ∷ []) ≡ prefix ++ (e.0, f o) ∷ []
last_changed low high prefix e back o f rises =
    ap (λ (found : Option Object). option_map_or (λ x. set_value (is_at (nat_cmp e.0)) (prefix ++ (e.0, o) ∷ []) (f x)) found (prefix ++ (e.0, o) ∷ [])) (last_found low high prefix e back o rises)
    ∙ last_set low high prefix e back o (f o) rises

-- only a file has more bytes than one part
long_file : (l : Limits) (k : Kind) (n : ℕ) → n ≤ most_bytes l k → 1048576 < n → k ≡ File
long_file l File n most more = refl
long_file l Directory n most more = absurd (omega (arith, most, more))
long_file l Link n most more = let le : n ≤ 1024 = most in absurd (omega (arith, le, more))

-- an item that passes a test, between those before it and those after it
record Between {X : Type 0} (p : X → Bool) (xs : List X) : Type 0 where
  prefix : List X
  it : X
  back : List X
  is : xs ≡ prefix ++ it ∷ back
  passes : p it ≡ true

between : {X : Type 0} (p : X → Bool) (xs : List X) → list_any p xs ≡ true → Between p xs
between p [] some = cc
between {X} p (x ∷ xs) some =
    elim (p x) as (λ b. p x ≡ b → (b || list_any p xs) ≡ true → Between p (x ∷ xs)) [
      | true ↦ λ is _. record { prefix = []; it = x; back = xs; is = refl; passes = is }
      | false ↦ λ _ h. let r = between p xs h in record { prefix = x ∷ r.prefix; it = r.it; back = r.back; is = ap (λ (l : List X). x ∷ l) r.is; passes = r.passes }
    ] refl some

in_middle : (prefix : List Name) (n : Name) (back : List Name) → IsIn n (prefix ++ n ∷ back)
in_middle [] n back = inl refl
in_middle (m ∷ prefix) n back = inr (in_middle prefix n back)

prefix_below : (low high : ℕ) (prefix : List Name) (n : Name) (back : List Name) (m : Name) → Rises (λ n. n.cookie) low (prefix ++ n ∷ back) high → IsIn m prefix → m.cookie < n.cookie
prefix_below low high [] n back m rises present = absurd present
prefix_below low high (x ∷ prefix) n back m rises present =
    ⊎_elim
    (λ same. let at : m.cookie ≡ x.cookie = ap (λ (n : Name). n.cookie) same in let above : x.cookie + 1 ≤ n.cookie = rises_to (λ (n : Name). n.cookie) (x.cookie + 1) high prefix n back rises.1 in omega (arith, at, above))
    (λ later. prefix_below (x.cookie + 1) high prefix n back m rises.1 later) present

-- the prefix before a counted item counts fewer than the list
fewer_in_prefix : (q : Name → Bool) (prefix : List Name) (n : Name) (back : List Name) → q n ≡ true → count_by q prefix < count_by q (prefix ++ n ∷ back)
fewer_in_prefix q prefix n back is =
    let all : count_by q (prefix ++ n ∷ back) ≡ count_by q prefix + count_by q (n ∷ back) = sum_by-append (λ n. cond (q n) 1 0) prefix (n ∷ back) in
    let late : count_by q (n ∷ back) ≡ cond (q n) 1 0 + count_by q back = sum_by-cons (λ n. cond (q n) 1 0) n back in
    let one : cond {A = ℕ} (q n) 1 0 ≡ 1 = ap (λ (b : Bool). cond {A = ℕ} b 1 0) is in
    omega (arith, all, late, one)

is_in_any : (q : Name → Bool) (names : List Name) (n : Name) → IsIn n names → q n ≡ true → list_any q names ≡ true
is_in_any q [] n present passes = absurd present
is_in_any q (m ∷ names) n present passes =
    elim (q m) as (λ b. q m ≡ b → (b || list_any q names) ≡ true) [
      | true ↦ λ is. refl
      | false ↦ λ is. ⊎_elim (λ same. let t : q m ≡ true = subst (λ x. q x ≡ true) same passes in cc) (λ later. is_in_any q names n later passes) present
    ] refl

of_kind : (o : Option Kind) → option_map_or is_directory o false ≡ true → o ≡ Some Directory
of_kind None h = cc
of_kind (Some File) h = cc
of_kind (Some Directory) h = refl
of_kind (Some Link) h = cc

some_object : (o : Option Object) → IsSome (option_map (λ (o : Object). o.kind) o) → is_some o ≡ true
some_object None h = cc
some_object (Some o) h = refl

absent : (o : Option ℕ) → ((c : ℕ) → o ≡ Some c → ⊥) → not (is_some o) ≡ true
absent None none = refl
absent (Some c) none = absurd (none c refl)

-- ---- the path to the root is shorter than the list of all directories

still_there : (k q : ℕ) → q ≢ k → (ks : List ℕ) → list_any (is_at (nat_cmp q)) ks ≡ true → list_any (is_at (nat_cmp q)) (filter (λ x. not (is_at (nat_cmp k) x)) ks) ≡ true
still_there k q apart [] h = cc
still_there k q apart (x ∷ ks) h =
    let rest = filter (λ x. not (is_at (nat_cmp k) x)) ks in
    elim (is_at (nat_cmp k) x) as (λ b. is_at (nat_cmp k) x ≡ b → list_any (is_at (nat_cmp q)) (cond (not b) (x ∷ rest) rest) ≡ true) [
      | true ↦ λ at.
          let same : k ≡ x = is_same k x at in
          let other : is_at (nat_cmp q) x ≡ false = is_at-apart q x (λ e. apart (e ∙ sym same)) in
          still_there k q apart ks (sym (ap (λ b. b || list_any (is_at (nat_cmp q)) ks) other) ∙ h)
      | false ↦ λ _. elim (is_at (nat_cmp q) x) as (λ b. (b || list_any (is_at (nat_cmp q)) ks) ≡ true → (b || list_any (is_at (nat_cmp q)) rest) ≡ true) [
        | true ↦ λ _. refl
        | false ↦ λ more. still_there k q apart ks more
      ] h
    ] refl

one_less : (k : ℕ) (ks : List ℕ) → list_any (is_at (nat_cmp k)) ks ≡ true → length (filter (λ x. not (is_at (nat_cmp k) x)) ks) < length ks
one_less k [] h = cc
one_less k (x ∷ ks) h =
    let rest = filter (λ x. not (is_at (nat_cmp k) x)) ks in
    let counted : length rest ≡ count_by (λ x. not (is_at (nat_cmp k) x)) ks = length-filter (λ x. not (is_at (nat_cmp k) x)) ks in
    let le : count_by (λ x. not (is_at (nat_cmp k) x)) ks ≤ length ks = count_by-le-length (λ x. not (is_at (nat_cmp k) x)) ks in
    elim (is_at (nat_cmp k) x) as (λ b. (b || list_any (is_at (nat_cmp k)) ks) ≡ true → length (cond (not b) (x ∷ rest) rest) < length (x ∷ ks)) [
      | true ↦ λ _. let goal : length rest < suc (length ks) = omega (arith, counted, le) in goal
      | false ↦ λ more. let r : length rest < length ks = one_less k ks more in let goal : suc (length rest) < suc (length ks) = omega (arith, r) in goal
    ] h

module _ (kinds : ℕ → Option Kind) (names : List Name) (rooted : IsRooted kinds names) where
  -- there is one path to the root
  unique : (s t k : ℕ) → kinds k ≡ Some Directory → Climbs names s k → Climbs names t k → s ≡ t
  unique zero zero k is a b = refl
  unique zero (suc t) k is a (n, present, at, up) = absurd (rooted.root_has_no_name n present (at ∙ a))
  unique (suc s) zero k is (n, present, at, up) b = absurd (rooted.root_has_no_name n present (at ∙ b))
  unique (suc s) (suc t) k is (n, present, at, up) (m, present', at', up') =
      let one : n ≡ m = rooted.one_parent n m present present' (at ∙ sym at') (ap kinds at' ∙ is) in
      ap suc (unique s t n.directory (rooted.ends n present).0 up (subst (λ (x : Name). Climbs names t x.directory) (sym one) up'))

  -- a list that has each directory whose path to the root is no longer
  short_way : (s k : ℕ) → Climbs names s k → kinds k ≡ Some Directory → (ks : List ℕ) → ((t q : ℕ) → t ≤ s → Climbs names t q → kinds q ≡ Some Directory → list_any (is_at (nat_cmp q)) ks ≡ true) → s < length ks
  short_way zero k climbs is ks all =
      let less = one_less k ks (all zero k (omega arith) climbs is) in
      omega (arith, less)
  short_way (suc s) k (n, present, at, up) is ks all =
      let rest = filter (λ x. not (is_at (nat_cmp k) x)) ks in
      let less : length rest < length ks = one_less k ks (all (suc s) k (omega arith) (n, present, at, up) is) in
      let shorter : s < length rest = short_way s n.directory up (rooted.ends n present).0 rest
      (λ t q le climbs dir. still_there k q (λ same. let long : t ≡ suc s = unique t (suc s) q dir climbs (subst (Climbs names (suc s)) (sym same) (n, present, at, up)) in absurd (omega (arith, le, long)))
      ks (all t q (omega (arith, le)) climbs dir)) in
      omega (arith, less, shorter)

-- ---- a sound world

module _ (w : World) (sound : IsSound w) where
  -- the world after some of the objects and names
  abbrev so_far : List (ℕ × Object) → List Name → ℕ → ℕ → Begun
  so_far objects names number cookie = record {
    world = record { limits = w.limits; objects = objects; names = names; next_number = w.next_number; next_tick = w.next_tick; next_stamp = w.next_stamp; next_cookie = w.next_cookie };
    number = number;
    cookie = cookie;
  }

  -- ---- objects

  numbers_rise : (es : List (ℕ × Object)) → es ≡ w.objects → Rises (λ e. e.0) ROOT es w.next_number
  numbers_rise es is = subst (λ (l : List (ℕ × Object)). Rises (λ e. e.0) ROOT l w.next_number) (sym is) sound.numbered

  present : (before : List (ℕ × Object)) (e : ℕ × Object) (es : List (ℕ × Object)) → before ++ e ∷ es ≡ w.objects → object w e.0 ≡ Some e.1
  present before e es is = ap (lookup (is_at (nat_cmp e.0))) (sym is) ∙ is_at_place ROOT w.next_number before e es (numbers_rise (before ++ e ∷ es) is)

  unstamped : (before : List (ℕ × Object)) (e : ℕ × Object) (es : List (ℕ × Object)) → before ++ e ∷ es ≡ w.objects → has_stamp before e.1.stamp ≡ false
  unstamped before e es is = false_from_ne_true (has_stamp before e.1.stamp) (λ h. twice (between (λ (x : ℕ × Object). e.1.stamp == x.1.stamp) before h))
    where
      twice : Between (λ (x : ℕ × Object). e.1.stamp == x.1.stamp) before → ⊥
      twice r =
          let whole : r.prefix ++ r.it ∷ (r.back ++ e ∷ es) ≡ w.objects = sym (append_assoc r.prefix (r.it ∷ r.back) (e ∷ es)) ∙ ap (λ (l : List (ℕ × Object)). l ++ e ∷ es) (sym r.is) ∙ is in
          let stamp : e.1.stamp ≡ r.it.1.stamp = (Decides-eqb e.1.stamp r.it.1.stamp).0 r.passes in
          let same : r.it.0 ≡ e.0 = sound.stamped.apart r.it.0 e.0 e.1.stamp (ap (option_map (λ (o : Object). o.stamp)) (present r.prefix r.it (r.back ++ e ∷ es) whole) ∙ ap Some (sym stamp)) (ap (option_map (λ (o : Object). o.stamp)) (present before e es is)) in
          let rises = rises_past (λ (e : ℕ × Object). e.0) ROOT w.next_number r.prefix r.it (r.back ++ e ∷ es) (numbers_rise (r.prefix ++ r.it ∷ (r.back ++ e ∷ es)) whole) in
          let above : r.it.0 + 1 ≤ e.0 = rises_to (λ (e : ℕ × Object). e.0) (r.it.0 + 1) w.next_number r.back e es rises in
          omega (arith, same, above)

  -- the object with the bytes of its first part
  abbrev first_of : Object → Object
  first_of o = record o { bytes = piece o.bytes 0 }

  no_longer : (bytes : List ℕ) → length (piece bytes 0) ≤ length bytes
  no_longer bytes = let within : 0 + length (piece bytes 0) ≤ 0 + (length bytes - 0) = length_within bytes 0 in omega (arith, within)

  object_next : (before : List (ℕ × Object)) (e : ℕ × Object) (es : List (ℕ × Object)) (number : ℕ) → before ++ e ∷ es ≡ w.objects → Rises (λ e. e.0) number (e ∷ es) w.next_number → object_fits (so_far before [] number 3) e.0 (first_of e.1) ≡ true
  object_next before e es number is rises =
      let o = first_of e.1 in
      let fit = sound.fit e.0 e.1 (present before e es is) in
      let short : length (piece e.1.bytes 0) ≤ length e.1.bytes = no_longer e.1.bytes in
      let most : length e.1.bytes ≤ most_bytes w.limits e.1.kind = fit.bytes in
      let top : e.0 + 1 ≤ w.next_number = rises_from (λ (e : ℕ × Object). e.0) (e.0 + 1) w.next_number es rises.1 in
      let all : length (before ++ e ∷ es) ≡ length before + length (e ∷ es) = length-append before (e ∷ es) in
      let whole : length (before ++ e ∷ es) ≡ length w.objects = ap length is in
      let few : length w.objects ≤ w.limits.objects = sound.few in
      let late : length (e ∷ es) ≡ suc (length es) = refl in
      and_from (nat_le number e.0 && nat_lt e.0 w.next_number && nat_lt (length before) w.limits.objects) (is_fit w.limits w.next_tick w.next_stamp o && not (has_stamp before o.stamp))
      (and_from (nat_le number e.0 && nat_lt e.0 w.next_number) (nat_lt (length before) w.limits.objects)
      (and_from (nat_le number e.0) (nat_lt e.0 w.next_number) (le-leb number e.0 rises.0) (lt-ltb e.0 w.next_number (omega (arith, top))))
      (lt-ltb (length before) w.limits.objects (omega (arith, all, whole, few, late))))
      (and_from (is_fit w.limits w.next_tick w.next_stamp o) (not (has_stamp before o.stamp))
      (and_from (nat_le (length o.bytes) (most_bytes w.limits o.kind) && fits o.list && nat_lt o.change w.next_tick) (nat_lt o.stamp w.next_stamp)
      (and_from (nat_le (length o.bytes) (most_bytes w.limits o.kind) && fits o.list) (nat_lt o.change w.next_tick)
      (and_from (nat_le (length o.bytes) (most_bytes w.limits o.kind)) (fits o.list) (le-leb (length o.bytes) (most_bytes w.limits o.kind) (omega (arith, short, most)))
      (and_from (nat_le (length o.list) 64) (nat_le (count_by keeps o.list) 59) (le-leb (length o.list) 64 fit.list.all) (le-leb (count_by keeps o.list) 59 fit.list.kept)))
      (lt-ltb o.change w.next_tick fit.change))
      (lt-ltb o.stamp w.next_stamp (sound.stamped.below e.0 o.stamp (ap (option_map (λ (o : Object). o.stamp)) (present before e es is)))))
      (not_from_false (has_stamp before o.stamp) (unstamped before e es is)))

  -- ---- the further parts of an object

  module _ (before : List (ℕ × Object)) (e : ℕ × Object) (es : List (ℕ × Object)) (is : before ++ e ∷ es ≡ w.objects) where
    -- the world with the first bytes of the object
    abbrev held : List ℕ → Begun
    held xs = so_far (before ++ (e.0, record e.1 { bytes = xs }) ∷ []) [] (e.0 + 1) 3

    rising : Rises (λ (e : ℕ × Object). e.0) ROOT (before ++ e ∷ es) w.next_number
    rising = numbers_rise (before ++ e ∷ es) is

    fit_bytes : length e.1.bytes ≤ most_bytes w.limits e.1.kind
    fit_bytes = (sound.fit e.0 e.1 (present before e es is)).bytes

    of_world : (xs : List ℕ) → object (held xs).world e.0 ≡ Some (record e.1 { bytes = xs })
    of_world xs = last_found ROOT w.next_number before e es (record e.1 { bytes = xs }) rising

    rest_fits : (m offset : ℕ) → m ≤ offset → 1048576 ≤ offset → offset < length e.1.bytes → more_fits (held (take m e.1.bytes)) e.0 offset (piece e.1.bytes offset) ≡ true
    rest_fits m offset le first within =
        let file : e.1.kind ≡ File = long_file w.limits e.1.kind (length e.1.bytes) fit_bytes (omega (arith, first, within)) in
        let most : length e.1.bytes ≤ w.limits.bytes = subst (λ k. length e.1.bytes ≤ most_bytes w.limits k) file fit_bytes in
        let b = (held (take m e.1.bytes)).world in
        let is_one : is_file_at b e.0 ≡ true = ap (λ (x : Option Object). option_map_or is_file (option_map (λ (o : Object). o.kind) x) false) (of_world (take m e.1.bytes)) ∙ ap is_file file in
        let size : length (bytes_of b e.0) ≡ length (take m e.1.bytes) = ap (λ (x : Option Object). length (option_map_or (λ (o : Object). o.bytes) x [])) (of_world (take m e.1.bytes)) in
        let few : length (take m e.1.bytes) ≤ m = took_few e.1.bytes m in
        let all : offset + length (piece e.1.bytes offset) ≤ offset + (length e.1.bytes - offset) = length_within e.1.bytes offset in
        and_from (is_file_at b e.0) (nat_le (length (bytes_of b e.0)) offset && nat_le (offset + length (piece e.1.bytes offset)) w.limits.bytes) is_one
        (and_from (nat_le (length (bytes_of b e.0)) offset) (nat_le (offset + length (piece e.1.bytes offset)) w.limits.bytes)
        (le-leb (length (bytes_of b e.0)) offset (omega (arith, size, few, le)))
        (le-leb (offset + length (piece e.1.bytes offset)) w.limits.bytes (omega (arith, all, most, within))))

    rest_put : (m offset : ℕ) → m ≤ offset → offset ≤ length e.1.bytes → IsHole e.1.bytes m offset → held (take (offset + PIECE) e.1.bytes) ≡ with_more (held (take m e.1.bytes)) e.0 offset (piece e.1.bytes offset)
    rest_put m offset le within hole =
        let put : List ℕ = written (take m e.1.bytes) offset (piece e.1.bytes offset) in
        ap held (sym (put_on e.1.bytes m offset le within hole))
        ∙ ap (λ (l : List (ℕ × Object)). so_far l [] (e.0 + 1) 3)
        (sym (last_changed ROOT w.next_number before e es (record e.1 { bytes = take m e.1.bytes }) (λ o. record o { bytes = written o.bytes offset (piece e.1.bytes offset) }) rising))

    -- the parts at the offsets from k pieces on, where the first m bytes are there and zeros follow up to those pieces
    rests_taken : (n k m : ℕ) → k + n ≡ (length e.1.bytes - 1) / 1048576 + 1 → 1 ≤ k → m ≤ k * 1048576 → IsHole e.1.bytes m (k * 1048576) → (n ≡ 0 → length e.1.bytes ≤ m)
        → TakesAll w.limits (Some (held (take m e.1.bytes))) (map (λ offset. rest_value e.0 offset (piece e.1.bytes offset)) (filter (has_part e.1.bytes) (map (λ k. k * PIECE) (range_with_len k n)))) (Some (held e.1.bytes))
    rests_taken zero k m count one le hole all = ap (λ xs. Some (held xs)) (take_all m e.1.bytes (all refl))
    rests_taken (suc n) k m count one le hole all =
        let rest : List ℕ = filter (has_part e.1.bytes) (map (λ k. k * PIECE) (range_with_len (k + 1) n)) in
        let within : k * 1048576 < length e.1.bytes = omega (arith, count, one) in
        elim (has_part e.1.bytes (k * PIECE)) as (λ b. has_part e.1.bytes (k * PIECE) ≡ b
        → TakesAll w.limits (Some (held (take m e.1.bytes))) (map (λ offset. rest_value e.0 offset (piece e.1.bytes offset)) (cond b (k * PIECE ∷ rest) rest)) (Some (held e.1.bytes))) [
          | true ↦ λ _. (
            held (take (k * PIECE + PIECE) e.1.bytes),
            (rest_fits m (k * PIECE) le (omega (arith, one)) within, rest_put m (k * PIECE) le (omega (arith, within)) hole),
            rests_taken n (k + 1) (k * PIECE + PIECE) (omega (arith, count)) (omega (arith, one)) (omega arith) (λ i from before. absurd (omega arith)) (λ none. omega (arith, none, count)),
          )
          | false ↦ λ no.
              let out = skipped e.1.bytes (k * PIECE) no in
              let more : k * 1048576 + 1048576 < length e.1.bytes = out.more in
              rests_taken n (k + 1) m (omega (arith, count)) (omega (arith, one)) (omega (arith, le)) (λ i from before. ⊎_elim (λ (old : i < k * 1048576). hole i from old) (λ (new : k * 1048576 ≤ i). out.hole i new (omega (arith, before))) (cases_lt i (k * 1048576)))
              (λ none. absurd (omega (arith, none, count, more)))
        ] refl

    rest_taken : TakesAll w.limits (Some (held (piece e.1.bytes 0))) (map (λ offset. rest_value e.0 offset (piece e.1.bytes offset)) (rest_offsets e.1.bytes)) (Some (held e.1.bytes))
    rest_taken = rests_taken ((length e.1.bytes - 1) / 1048576) 1 PIECE (omega arith) (omega arith) (omega arith) (λ i from before. absurd (omega (arith, from, before))) (λ none. omega (arith, none))

  takes_append : (xs ys : List (Value part)) (a : Option Begun) (b : Begun) (c : Option Begun) → TakesAll w.limits a xs (Some b) → TakesAll w.limits (Some b) ys c → TakesAll w.limits a (xs ++ ys) c
  takes_append [] ys a b c first late = subst (λ (s : Option Begun). TakesAll w.limits s ys c) (sym first) late
  takes_append (v ∷ xs) ys a b c (next, one, first) late = (next, one, takes_append xs ys (Some next) b c first late)

  -- ---- names

  names_rise : (ns : List Name) → ns ≡ w.names → Rises (λ n. n.cookie) 3 ns w.next_cookie
  names_rise ns is = subst (λ (l : List Name). Rises (λ n. n.cookie) 3 l w.next_cookie) (sym is) sound.listed

  module _ (before : List Name) (n : Name) (ns : List Name) (is : before ++ n ∷ ns ≡ w.names) where
    here : IsIn n w.names
    here = subst (IsIn n) is (in_middle before n ns)

    earlier : (m : Name) → IsIn m before → IsIn m w.names
    earlier m h = subst (IsIn m) is (in_prefix m before (n ∷ ns) h)

    another : (m : Name) → IsIn m before → m ≡ n → ⊥
    another m h same =
        let less : m.cookie < n.cookie = prefix_below 3 w.next_cookie before n ns m (names_rise (before ++ n ∷ ns) is) h in
        let at : m.cookie ≡ n.cookie = ap (λ (n : Name). n.cookie) same in
        omega (arith, less, at)

    one_more_link : link_count before n.child < w.limits.links
    one_more_link =
        let less : link_count before n.child < link_count (before ++ n ∷ ns) n.child = fewer_in_prefix (λ m. m.child == n.child) before n ns ((Decides-eqb n.child n.child).1 refl) in
        let all : link_count (before ++ n ∷ ns) n.child ≡ link_count w.names n.child = ap (λ (l : List Name). link_count l n.child) is in
        let most : link_count w.names n.child ≤ w.limits.links = sound.limited.links n.child in
        let goal : link_count before n.child < w.limits.links = omega (arith, less, all, most) in goal

    one_more_name : name_count before n.directory < w.limits.names
    one_more_name =
        let less : count_by (λ m. m.directory == n.directory) before < count_by (λ m. m.directory == n.directory) (before ++ n ∷ ns) = fewer_in_prefix (λ m. m.directory == n.directory) before n ns ((Decides-eqb n.directory n.directory).1 refl) in
        let all : count_by (λ m. m.directory == n.directory) (before ++ n ∷ ns) ≡ count_by (λ m. m.directory == n.directory) w.names = ap (λ (l : List Name). count_by (λ m. m.directory == n.directory) l) is in
        let a : name_count before n.directory ≡ count_by (λ m. m.directory == n.directory) before = names_counted before n.directory in
        let b : name_count w.names n.directory ≡ count_by (λ m. m.directory == n.directory) w.names = names_counted w.names n.directory in
        let most : name_count w.names n.directory ≤ w.limits.names = sound.limited.directories n.directory in
        let goal : name_count before n.directory < w.limits.names = omega (arith, less, all, a, b, most) in goal

    child_next : (number cookie : ℕ) → child_fits (so_far w.objects before number cookie).world n.child ≡ true
    child_next number cookie =
        elim (is_directory_at w n.child) as (λ b. is_directory_at w n.child ≡ b → cond b (not (has_name before n.child)) (is_some (object w n.child) && may_link w.limits (link_count before n.child)) ≡ true) [
          | true ↦ λ dir. not_from_false (has_name before n.child) (false_from_ne_true (has_name before n.child) (λ h.
              let r = any_passes (λ m. m.child == n.child) before h in
              another r.name r.present (sound.rooted.one_parent r.name n (earlier r.name r.present) here ((Decides-eqb r.name.child n.child).0 r.passes) (of_kind (kind_of w n.child) dir))))
          | false ↦ λ _. and_from (is_some (object w n.child)) (may_link w.limits (link_count before n.child)) (some_object (object w n.child) (sound.rooted.ends n here).1) (lt-ltb (link_count before n.child) w.limits.links one_more_link)
        ] refl

    none_named : not (is_some (child_named (so_far w.objects before 0 0).world n.directory n.name)) ≡ true
    none_named = absent (child_named (so_far w.objects before 0 0).world n.directory n.name) (λ c at.
        let f = found (λ m. m.child) (is_named n.directory n.name) before c (child_sought before n.directory n.name ∙ at) in
        another f.name f.present (sound.rooted.one_child f.name n (earlier f.name f.present) here (named_directory n.directory n.name f.name f.passes) (named_name n.directory n.name f.name f.passes)))

    name_next : (number cookie : ℕ) → Rises (λ n. n.cookie) cookie (n ∷ ns) w.next_cookie → name_fits (so_far w.objects before number cookie) n ≡ true
    name_next number cookie rises =
        let b = (so_far w.objects before number cookie).world in
        let top : n.cookie + 1 ≤ w.next_cookie = rises_from (λ (n : Name). n.cookie) (n.cookie + 1) w.next_cookie ns rises.1 in
        and_from ((nat_le cookie n.cookie && nat_lt n.cookie w.next_cookie && nat_le (length n.name) MAX_NAME) && (not (n.child == ROOT) && child_fits b n.child))
        (is_directory_at b n.directory && has_room w.limits (name_count before n.directory) && not (is_some (child_named b n.directory n.name)))
        (and_from (nat_le cookie n.cookie && nat_lt n.cookie w.next_cookie && nat_le (length n.name) MAX_NAME) (not (n.child == ROOT) && child_fits b n.child)
        (and_from (nat_le cookie n.cookie && nat_lt n.cookie w.next_cookie) (nat_le (length n.name) MAX_NAME)
        (and_from (nat_le cookie n.cookie) (nat_lt n.cookie w.next_cookie) (le-leb cookie n.cookie rises.0) (lt-ltb n.cookie w.next_cookie (omega (arith, top))))
        (le-leb (length n.name) MAX_NAME (sound.limited.short n here)))
        (and_from (not (n.child == ROOT)) (child_fits b n.child)
        (not_from_false (n.child == ROOT) (false_from_ne_true (n.child == ROOT) (λ h. sound.rooted.root_has_no_name n here ((Decides-eqb n.child ROOT).0 h))))
        (child_next number cookie)))
        (and_from (is_directory_at b n.directory && has_room w.limits (name_count before n.directory)) (not (is_some (child_named b n.directory n.name)))
        (and_from (is_directory_at b n.directory) (has_room w.limits (name_count before n.directory)) (directory_at w n.directory (sound.rooted.ends n here).0) (lt-ltb (name_count before n.directory) w.limits.names one_more_name))
        none_named)

  -- ---- all parts

  record Ends (b : Begun) (left : List (Value part)) : Type 0 where
    begun : Begun
    taken : TakesAll w.limits (Some b) left (Some begun)
    world : begun.world ≡ w

  names_taken : (ns before : List Name) (number cookie : ℕ) → before ++ ns ≡ w.names → Rises (λ n. n.cookie) cookie ns w.next_cookie → Ends (so_far w.objects before number cookie) (map name_value ns)
  names_taken [] before number cookie is rises = record {
    begun = so_far w.objects before number cookie;
    taken = refl;
    world = ap (λ (l : List Name). (so_far w.objects l number cookie).world) (sym (append-nil before) ∙ is);
  }
  names_taken (n ∷ ns) before number cookie is rises =
      let r = names_taken ns (before ++ n ∷ []) number (n.cookie + 1) (append_assoc before (n ∷ []) ns ∙ is) rises.1 in
      record {
        begun = r.begun;
        taken = (with_name (so_far w.objects before number cookie) n, (n, refl, name_next before n ns is number cookie rises, refl), r.taken);
        world = r.world;
      }

  objects_taken : (es before : List (ℕ × Object)) (number : ℕ) → before ++ es ≡ w.objects → Rises (λ e. e.0) number es w.next_number → Ends (so_far before [] number 3) (flat_map (λ e. object_parts e.0 e.1) es ++ map name_value w.names)
  objects_taken [] before number is rises =
      subst (λ (l : List (ℕ × Object)). Ends (so_far l [] number 3) (map name_value w.names)) (sym (sym (append-nil before) ∙ is)) (names_taken w.names [] number 3 refl sound.listed)
  objects_taken (e ∷ es) before number is rises =
      let r = objects_taken es (before ++ e ∷ []) (e.0 + 1) (append_assoc before (e ∷ []) es ∙ is) rises.1 in
      let rests : List (Value part) = map (λ offset. rest_value e.0 offset (piece e.1.bytes offset)) (rest_offsets e.1.bytes) in
      let others : List (Value part) = flat_map (λ e. object_parts e.0 e.1) es in
      let names : List (Value part) = map name_value w.names in
      record {
        begun = r.begun;
        taken = (
          with_object (so_far before [] number 3) e.0 (first_of e.1),
          object_takes (so_far before [] number 3) (with_object (so_far before [] number 3) e.0 (first_of e.1)) e.0 (first_of e.1) (option_map moment_value e.1.time_access) (plain_value e.0 (first_of e.1)) refl (object_next before e es number is rises) refl w.limits,
          subst (λ (l : List (Value part)). TakesAll w.limits (Some (held before e es is (piece e.1.bytes 0))) l (Some r.begun)) (sym (append_assoc rests others names))
              (takes_append rests (others ++ names) (Some (held before e es is (piece e.1.bytes 0))) (held before e es is e.1.bytes) (Some r.begun) (rest_taken before e es is) r.taken),
        );
        world = r.world;
      }

  -- ---- the whole

  parent_is : (k : ℕ) (n : Name) → kind_of w k ≡ Some Directory → IsIn n w.names → n.child ≡ k → parent_of w k ≡ Some n.directory
  parent_is k n is present at = parents_of w k is ∙ there (find (λ n. n.child == k) w.names) refl
    where
      there : (o : Option Name) → find (λ n. n.child == k) w.names ≡ o → option_map (λ (n : Name). n.directory) o ≡ Some n.directory
      there None none = absurd (not_found (λ n. n.child) (λ n. n.child == k) w.names (ap (option_map (λ (n : Name). n.child)) none) n present ((Decides-eqb n.child k).1 at))
      there (Some m) it =
          let f = found (λ n. n.directory) (λ n. n.child == k) w.names m.directory (ap (option_map (λ (n : Name). n.directory)) it) in
          let one : f.name ≡ n = sound.rooted.one_parent f.name n f.present present ((Decides-eqb f.name.child k).0 f.passes ∙ sym at) (ap (kind_of w) at ∙ is) in
          ap Some (sym f.child_is ∙ ap (λ (n : Name). n.directory) one)

  up : (s k fuel : ℕ) → Climbs w.names s k → kind_of w k ≡ Some Directory → s < fuel → climbs_to_root (parent_of w) fuel k ≡ true
  up zero k zero climbs is less = absurd (omega (arith, less))
  up zero k (suc fuel) climbs is less = at_root (parent_of w) fuel k climbs
  up (suc s) k zero climbs is less = absurd (omega (arith, less))
  up (suc s) k (suc fuel) (n, present, at, on) is less =
      one_up (parent_of w) fuel k (Some n.directory) (λ same. sound.rooted.root_has_no_name n present (at ∙ same)) (parent_is k n is present at)
      ∙ up s n.directory fuel on (sound.rooted.ends n present).0 (omega (arith, less))

  listed : (q : ℕ) → kind_of w q ≡ Some Directory → list_any (is_at (nat_cmp q)) (keys_of w.objects) ≡ true
  listed q is = sym (is_some-lookup (is_at (nat_cmp q)) w.objects) ∙ some_object (object w q) (ap is_some is)

  placed : (before : List (ℕ × Object)) (e : ℕ × Object) (es : List (ℕ × Object)) → before ++ e ∷ es ≡ w.objects → is_placed w e.0 ≡ true
  placed before e es is =
      let kind : kind_of w e.0 ≡ Some e.1.kind = ap (option_map (λ (o : Object). o.kind)) (present before e es is) in
      elim (is_directory_at w e.0) as (λ b. is_directory_at w e.0 ≡ b → cond b (climbs_to_root (parent_of w) (length w.objects) e.0) (has_name w.names e.0) ≡ true) [
        | true ↦ λ dir.
            let dir' = of_kind (kind_of w e.0) dir in
            let way = sound.rooted.reaches_root e.0 dir' in
            let short : way.0 < length (keys_of w.objects) = short_way (kind_of w) w.names sound.rooted way.0 e.0 way.1 dir' (keys_of w.objects) (λ t q _ _ there. listed q there) in
            let as_many : length (keys_of w.objects) ≡ length w.objects = length-map w.objects (λ (e : ℕ × Object). e.0) in
            up way.0 e.0 (length w.objects) way.1 dir' (omega (arith, short, as_many))
        | false ↦ λ other.
            let r = sound.rooted.held e.0 (ap is_some kind) (λ at. let t : is_directory_at w e.0 ≡ true = ap (is_directory_at w) at ∙ directory_at w ROOT sound.rooted.root in cc) in
            is_in_any (λ n. n.child == e.0) w.names r.0 r.1 ((Decides-eqb r.0.child e.0).1 r.2)
      ] refl

  all_placed : (es before : List (ℕ × Object)) → before ++ es ≡ w.objects → list_all (is_placed w) (map (λ e. e.0) es) ≡ true
  all_placed [] before is = refl
  all_placed (e ∷ es) before is = and_from (is_placed w e.0) (list_all (is_placed w) (map (λ e. e.0) es)) (placed before e es is) (all_placed es (before ++ e ∷ []) (append_assoc before (e ∷ []) es ∙ is))

  whole : is_whole w ≡ true
  whole = and_from (is_directory_at w ROOT) (list_all (is_placed w) (map (λ e. e.0) w.objects)) (directory_at w ROOT sound.rooted.root) (all_placed w.objects [] refl)

  pub taken_again : IsTakenAgain w
  taken_again =
      let r = objects_taken w.objects [] ROOT refl sound.numbered in
      let fit : counters_fit w.next_number w.next_tick w.next_stamp w.next_cookie ≡ true = sym (all_left w.next_number w.next_tick w.next_stamp w.next_cookie
      (rises_from (λ (e : ℕ × Object). e.0) ROOT w.next_number w.objects sound.numbered) (rises_from (λ (n : Name). n.cookie) 3 w.next_cookie w.names sound.listed)
      sound.counted.numbers sound.counted.ticks sound.counted.stamps sound.counted.cookies) in
      record {
        begun = r.begun;
        taken = (begun w.limits w.next_number w.next_tick w.next_stamp w.next_cookie, (fit, refl), r.taken);
        same = r.world;
        whole = ap is_whole r.world ∙ whole;
      }
