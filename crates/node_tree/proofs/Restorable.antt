-- The parts restored so far are always parts that a sound tree may have. They are a sound tree if each object has a
-- place.
use Rattle.std.proofs.Common.{◌≡◌, ◌≢◌, ℕ, zero, suc, ◌+◌, ◌-◌, ◌<◌, ◌≤◌, ◌^◌, Bool, true, false, not, cond, ◌&&◌, ◌||◌, List, [], ◌∷◌, ◌++◌, length, map, refl, ap, sym, ◌∙◌, subst, arith, Some, None, length-append}
use Rattle.std.specs.Prelude.{Option, IsSome, is_some, ◌==◌, find, nat_le, nat_lt}
use Rattle.std.specs.Ordering.{nat_cmp, match_ordering, is_eq}
use Rattle.std.specs.declared.cmp.Ordering.TheVariants.{Less, Equal, Greater}
use Rattle.std.specs.BTreeSet.{insert_key}
use Rattle.std.specs.Map.{lookup, set_value}
use Rattle.std.specs.BTreeMap.{is_at}
use Rattle.std.specs.List.{list_any, list_all}
use Rattle.std.specs.Option.{option_map, option_map_or}
use Rattle.std.proofs.Math.Logic.{⊎_elim}
use Rattle.std.proofs.lemmas.Bool.{and_parts}
use Rattle.std.proofs.lemmas.Map.{keys-set_value}
use Rattle.std.proofs.lemmas.Bool.Decides.{Decides-eqb, Decides-ltb, leb_tells, nat_tests}
use Rattle.acl_list.specs.declared.entry.Kind.{Kind}
use Rattle.acl_list.specs.declared.entry.Kind.TheVariants.{File, Directory, Link}
use Rattle.acl_shape.specs.Inherited.{is_directory}
use Rattle.acl_shape.specs.Bounds.{fits}
use Rattle.acl_shape.proofs.Parts.{IsBounded-fits}
use Rattle.nfs_types.specs.Limits.{Limits, IsAllowed}
use Rattle.node_tree.specs.Limits.{ROOT, MAX_NAME}
use Rattle.node_tree.specs.World.{World, Object, Name, object, kind_of, child_named, is_directory_at, is_named, has_name, name_count, link_count, parent_of, is_file, is_file_at, bytes_of}
use Rattle.node_tree.specs.Changes.{changed, written}
use Rattle.node_tree.specs.Refusals.{has_room, may_link}
use Rattle.node_tree.specs.Sound.{IsIn, Climbs, IsStamped, IsFit, IsSound, Rises, stamp_of, most_bytes}
use Rattle.node_tree.specs.Restored.{Begun, counters_fit, put_object, put_name, put_more, has_stamp, is_fit, object_fits, more_fits, child_fits, name_fits, climbs_to_root, is_placed, is_whole, IsHung, IsBegun}
use Rattle.node_tree.proofs.Objects.{is_at-same, is_at-apart, is_at-unlike, is_same, by_number, lookup-inserted, option_map-changed}
use Rattle.node_tree.proofs.Holding.{IsHeld, IsHeld-changed}
use Rattle.node_tree.proofs.Setting.{length-written}
use Rattle.node_tree.proofs.Rising.{Rises-push, number-below, inserted_last}
use Rattle.node_tree.proofs.Names.{Found, found, not_found, from_push, named_at, child_sought, any_passes, none_passes, count_by-none, flipped_back, IsLimited-push}
use Rattle.node_tree.proofs.Stamps.{Joins}
use mathlib.Core.Path.{fun_ext}

at_most : (a b : ℕ) → nat_le a b ≡ true → a ≤ b
at_most a b h = ⊎_elim (λ yes. yes.1) (λ no. let f : nat_le a b ≡ false = no.0 in cc) (leb_tells a b)

-- ---- rising keys

pub Rises-later : {X : Type 0} (key : X → ℕ) (low high later : ℕ) (xs : List X) → high ≤ later → Rises key low xs high → Rises key low xs later
Rises-later key low high later [] le rises = omega (arith, rises, le)
Rises-later key low high later (x ∷ xs) le rises = (rises.0, Rises-later key (key x + 1) high later xs le rises.1)

-- ---- one more object

seen : (es : List (ℕ × Object)) (number : ℕ) (o : Object) → Rises (λ e. e.0) 1 es number → (k : ℕ)
    → lookup (is_at (nat_cmp k)) (es ++ (number, o) ∷ []) ≡ cond (is_at (nat_cmp k) number) (Some o) (lookup (is_at (nat_cmp k)) es)
seen es number o rises k = ap (lookup (is_at (nat_cmp k))) (sym (inserted_last 1 number es o rises)) ∙ lookup-inserted number k o es

joins : {X : Type 0} (read : Object → X) (es : List (ℕ × Object)) (number : ℕ) (o : Object) → Rises (λ e. e.0) 1 es number
    → Joins (λ k. option_map read (lookup (is_at (nat_cmp k)) es)) (λ k. option_map read (lookup (is_at (nat_cmp k)) (es ++ (number, o) ∷ []))) number (read o)
joins read es number o rises = record {
  there = ap (option_map read) (seen es number o rises number) ∙ ap (λ b. option_map read (cond b (Some o) (lookup (is_at (nat_cmp number)) es))) (is_at-same number);
  elsewhere = λ k apart. ap (option_map read) (seen es number o rises k) ∙ ap (λ b. option_map read (cond b (Some o) (lookup (is_at (nat_cmp k)) es))) (is_at-apart k number (λ same. apart (sym same)));
}

-- no object has a number above all others
fresh : {X : Type 0} (read : Object → X) (es : List (ℕ × Object)) (number : ℕ) → Rises (λ e. e.0) 1 es number → (k : ℕ) → IsSome (option_map read (lookup (is_at (nat_cmp k)) es)) → number ≢ k
fresh {X} read es number rises k h = there (lookup (is_at (nat_cmp k)) es) refl h
  where
    there : (o : Option Object) → lookup (is_at (nat_cmp k)) es ≡ o → IsSome (option_map read o) → number ≢ k
    there None is h same = cc
    there (Some o) is h same = let b : k < number = number-below 1 number es k o rises is in omega arith

neither : (a b : Bool) → (a || b) ≡ false → (a ≡ false) × (b ≡ false)
neither true b h = cc
neither false b h = (refl, h)

unstamped : (es : List (ℕ × Object)) (s k : ℕ) → has_stamp es s ≡ false → option_map (λ (o : Object). o.stamp) (lookup (is_at (nat_cmp k)) es) ≡ Some s → ⊥
unstamped [] s k none is = cc
unstamped (e ∷ es) s k none is =
    let split = neither (s == e.1.stamp) (has_stamp es s) none in
    elim (is_at (nat_cmp k) e.0) as (λ b. option_map (λ (o : Object). o.stamp) (cond b (Some e.1) (lookup (is_at (nat_cmp k)) es)) ≡ Some s → ⊥) [
      | true ↦ λ h. let same : e.1.stamp ≡ s = cc in let t : (s == e.1.stamp) ≡ true = (Decides-eqb s e.1.stamp).1 (sym same) in let f : (s == e.1.stamp) ≡ false = split.0 in cc
      | false ↦ λ h. unstamped es s k split.1 h
    ] is

IsStamped-added : (stamps new : ℕ → Option ℕ) (number it next : ℕ) → IsStamped stamps next → Joins stamps new number it → ((k : ℕ) → stamps k ≡ Some it → ⊥) → it < next → IsStamped new next
IsStamped-added stamps new number it next stamped joins absent due = record {
  apart = λ j k s a b. by_number number j
      (λ at. by_number number k (λ at'. sym at ∙ at') (λ ne. absurd (absent k (subst (λ s. stamps k ≡ Some s) (first j s at a) (old k s ne b)))))
      (λ ne. by_number number k (λ at'. absurd (absent j (subst (λ s. stamps j ≡ Some s) (first k s at' b) (old j s ne a)))) (λ ne'. stamped.apart j k s (old j s ne a) (old k s ne' b)));
  below = λ k s a. by_number number k (λ at. subst (λ s. s < next) (sym (first k s at a)) due) (λ ne. stamped.below k s (old k s ne a));
}
  where
    old : (k s : ℕ) → number ≢ k → new k ≡ Some s → stamps k ≡ Some s
    old k s apart is = sym (joins.elsewhere k apart) ∙ is

    first : (k s : ℕ) → number ≡ k → new k ≡ Some s → s ≡ it
    first k s at is = let t : new k ≡ Some it = subst (λ k. new k ≡ Some it) at joins.there in cc

IsHung-joined : (kinds new : ℕ → Option Kind) (names : List Name) (number : ℕ) (kind : Kind) → IsHung kinds names → Joins kinds new number kind → ((k : ℕ) → IsSome (kinds k) → number ≢ k) → IsHung new names
IsHung-joined kinds new names number kind hung joins fresh =
    let kept = λ (k : ℕ) (h : IsSome (kinds k)). joins.elsewhere k (fresh k h) in
    record {
      root_has_no_name = hung.root_has_no_name;
      ends = λ n h. let e = hung.ends n h in (kept n.directory (ap is_some e.0) ∙ e.0, ap is_some (kept n.child e.1) ∙ e.1);
      one_child = hung.one_child;
      one_parent = λ m n h i same is. hung.one_parent m n h i same (sym (kept n.child (hung.ends n i).1) ∙ is);
    }

turned : (a b c : Bool) → (a || (b || c)) ≡ (b || (a || c))
turned true true c = refl
turned true false c = refl
turned false b c = refl

again : (a c : Bool) → (a || c) ≡ (a || (a || c))
again true c = refl
again false c = refl

same_test : (s k : ℕ) → is_at (nat_cmp s) k ≡ (s == k)
same_test s k = elim (is_at (nat_cmp s) k) as (λ b. is_at (nat_cmp s) k ≡ b → b ≡ (s == k)) [
  | true ↦ λ at. sym ((Decides-eqb s k).1 (is_same s k at))
  | false ↦ λ at. elim (s == k) as (λ b. (s == k) ≡ b → false ≡ b) [
    | true ↦ λ is. absurd (is_at-unlike s k at ((Decides-eqb s k).0 is))
    | false ↦ λ _. refl
  ] refl
] refl

-- the stamps so far, with one more
pub one_stamp_more : (s k : ℕ) (ks : List ℕ) → list_any (is_at (nat_cmp s)) (insert_key nat_cmp ks k) ≡ ((s == k) || list_any (is_at (nat_cmp s)) ks)
one_stamp_more s k [] = ap (λ b. b || false) (same_test s k)
one_stamp_more s k (x ∷ xs) =
    let rest = list_any (is_at (nat_cmp s)) xs in
    elim (nat_cmp k x) as (λ r. nat_cmp k x ≡ r → list_any (is_at (nat_cmp s)) (match_ordering r (k ∷ x ∷ xs) (x ∷ xs) (x ∷ insert_key nat_cmp xs k)) ≡ ((s == k) || (is_at (nat_cmp s) x || list_any (is_at (nat_cmp s)) xs))) [
      | Less ↦ λ is. ap (λ b. b || (is_at (nat_cmp s) x || rest)) (same_test s k)
      | Equal ↦ λ is. let same : k ≡ x = is_same k x (ap is_eq is) in
          subst (λ b. (is_at (nat_cmp s) x || rest) ≡ (b || (is_at (nat_cmp s) x || rest))) (same_test s x ∙ ap (λ y. s == y) (sym same)) (again (is_at (nat_cmp s) x) rest)
      | Greater ↦ λ is. ap (λ b. is_at (nat_cmp s) x || b) (one_stamp_more s k xs) ∙ turned (is_at (nat_cmp s) x) (s == k) rest
    ] refl

stamps_more : (es : List (ℕ × Object)) (number : ℕ) (o : Object) (s : ℕ) → has_stamp (es ++ (number, o) ∷ []) s ≡ ((s == o.stamp) || has_stamp es s)
stamps_more [] number o s = refl
stamps_more (e ∷ es) number o s = ap (λ b. (s == e.1.stamp) || b) (stamps_more es number o s) ∙ turned (s == e.1.stamp) (s == o.stamp) (has_stamp es s)

numbers_more : (es : List (ℕ × Object)) (number : ℕ) (o : Object) → map (λ (e : ℕ × Object). e.0) (es ++ (number, o) ∷ []) ≡ map (λ (e : ℕ × Object). e.0) es ++ number ∷ []
numbers_more [] number o = refl
numbers_more (e ∷ es) number o = ap (λ l. e.0 ∷ l) (numbers_more es number o)

pub record MayPut (b : Begun) (number : ℕ) (o : Object) : Type 0 where
  pub after : b.number ≤ number
  pub before : number < b.world.next_number
  pub room : length b.world.objects < b.world.limits.objects
  pub fit : IsFit b.world.limits b.world.next_tick o
  pub stamp : o.stamp < b.world.next_stamp
  pub absent : has_stamp b.world.objects o.stamp ≡ false

pub may_put : (b : Begun) (number : ℕ) (o : Object) → object_fits b number o ≡ true → MayPut b number o
may_put b number o h =
    let w = b.world in
    let places = nat_le b.number number && nat_lt number w.next_number && nat_lt (length w.objects) w.limits.objects in
    let all = and_parts places (is_fit w.limits w.next_tick w.next_stamp o && not (has_stamp w.objects o.stamp)) h in
    let p1 = and_parts (nat_le b.number number && nat_lt number w.next_number) (nat_lt (length w.objects) w.limits.objects) all.0 in
    let p2 = and_parts (nat_le b.number number) (nat_lt number w.next_number) p1.0 in
    let q1 = and_parts (is_fit w.limits w.next_tick w.next_stamp o) (not (has_stamp w.objects o.stamp)) all.1 in
    let q2 = and_parts (nat_le (length o.bytes) (most_bytes w.limits o.kind) && fits o.list && nat_lt o.change w.next_tick) (nat_lt o.stamp w.next_stamp) q1.0 in
    let q3 = and_parts (nat_le (length o.bytes) (most_bytes w.limits o.kind) && fits o.list) (nat_lt o.change w.next_tick) q2.0 in
    let q4 = and_parts (nat_le (length o.bytes) (most_bytes w.limits o.kind)) (fits o.list) q3.0 in
    record {
      after = at_most b.number number p2.0;
      before = (Decides-ltb number w.next_number).0 p2.1;
      room = (Decides-ltb (length w.objects) w.limits.objects).0 p1.1;
      fit = record { list = IsBounded-fits o.list q4.1; bytes = at_most (length o.bytes) (most_bytes w.limits o.kind) q4.0; change = (Decides-ltb o.change w.next_tick).0 q3.1 };
      stamp = (Decides-ltb o.stamp w.next_stamp).0 q2.1;
      absent = flipped_back (has_stamp w.objects o.stamp) q1.1;
    }

pub IsBegun-object : (w : World) (number cookie : ℕ) (numbers stamps : List ℕ) → IsBegun w number cookie numbers stamps
    → (k : ℕ) (o : Object) → MayPut (record { world = w; number = number; cookie = cookie }) k o
    → (more more_stamps : List ℕ) → more ≡ numbers ++ k ∷ [] → ((s : ℕ) → list_any (is_at (nat_cmp s)) more_stamps ≡ ((s == o.stamp) || list_any (is_at (nat_cmp s)) stamps))
    → IsBegun (put_object w k o) (k + 1) cookie more more_stamps
IsBegun-object w number cookie numbers stamps begun k o may more more_stamps numbers_are stamps_are =
    let rises = Rises-later (λ e. e.0) 1 number k w.objects may.after begun.numbered in
    record {
      hung = IsHung-joined (kind_of w) (kind_of (put_object w k o)) w.names k o.kind begun.hung (joins (λ o. o.kind) w.objects k o rises) (fresh (λ o. o.kind) w.objects k rises);
      stamped = IsStamped-added (stamp_of w) (stamp_of (put_object w k o)) k o.stamp w.next_stamp begun.stamped (joins (λ o. o.stamp) w.objects k o rises) (λ q. unstamped w.objects o.stamp q may.absent) may.stamp;
      numbered = Rises-push (λ e. e.0) 1 k w.objects (k, o) refl rises;
      listed = begun.listed;
      numbers_left = let b : k < w.next_number = may.before in let goal : k + 1 ≤ w.next_number = omega arith in goal;
      cookies_left = begun.cookies_left;
      few = let l : length (w.objects ++ (k, o) ∷ []) ≡ length w.objects + 1 = length-append w.objects ((k, o) ∷ []) in let r : length w.objects < w.limits.objects = may.room in let goal : length (w.objects ++ (k, o) ∷ []) ≤ w.limits.objects = omega arith in goal;
      fit = λ q p is. there (is_at (nat_cmp q) k) (lookup (is_at (nat_cmp q)) w.objects) q p refl (sym (seen w.objects k o rises q) ∙ is);
      limited = begun.limited;
      counted = record { numbers = begun.counted.numbers; ticks = begun.counted.ticks; stamps = begun.counted.stamps; cookies = begun.counted.cookies };
      allowed = begun.allowed;
      numbers_are = numbers_are ∙ ap (λ l. l ++ k ∷ []) begun.numbers_are ∙ sym (numbers_more w.objects k o);
      stamps_are = λ s. stamps_are s ∙ ap (λ b. (s == o.stamp) || b) (begun.stamps_are s) ∙ sym (stamps_more w.objects k o s);
    }
  where
    there : (b : Bool) (found : Option Object) (q : ℕ) (p : Object) → lookup (is_at (nat_cmp q)) w.objects ≡ found → cond b (Some o) found ≡ Some p → IsFit w.limits w.next_tick p
    there true found q p was_present is = let same : o ≡ p = cc in subst (IsFit w.limits w.next_tick) same may.fit
    there false found q p was_present is = begun.fit q p (was_present ∙ is)

-- ---- further bytes of a file

numbers_kept : (test : ℕ → Bool) (es : List (ℕ × Object)) (o : Object) → map (λ (e : ℕ × Object). e.0) (set_value test es o) ≡ map (λ (e : ℕ × Object). e.0) es
numbers_kept test es o = keys-set_value test es o

stamps_kept : (number : ℕ) (es : List (ℕ × Object)) (old new : Object) → lookup (is_at (nat_cmp number)) es ≡ Some old → new.stamp ≡ old.stamp → (s : ℕ) → has_stamp (set_value (is_at (nat_cmp number)) es new) s ≡ has_stamp es s
stamps_kept number [] old new found same s = refl
stamps_kept number (e ∷ es) old new found same s =
    elim (is_at (nat_cmp number) e.0) as (λ b. cond b (Some e.1) (lookup (is_at (nat_cmp number)) es) ≡ Some old → has_stamp (cond b ((e.0, new) ∷ es) (e ∷ set_value (is_at (nat_cmp number)) es new)) s ≡ ((s == e.1.stamp) || has_stamp es s)) [
      | true ↦ λ is. let one : e.1 ≡ old = cc in ap (λ x. (s == x) || has_stamp es s) (same ∙ ap (λ (o : Object). o.stamp) (sym one))
      | false ↦ λ is. ap (λ b. (s == e.1.stamp) || b) (stamps_kept number es old new is same s)
    ] found

-- a change of one object that keeps its stamp
numbers_changed : (number : ℕ) (f : Object → Object) (es : List (ℕ × Object)) → map (λ (e : ℕ × Object). e.0) (changed number f es) ≡ map (λ (e : ℕ × Object). e.0) es
numbers_changed number f es =
    elim (lookup (is_at (nat_cmp number)) es) as (λ found. map (λ (e : ℕ × Object). e.0) (option_map_or (λ o. set_value (is_at (nat_cmp number)) es (f o)) found es) ≡ map (λ (e : ℕ × Object). e.0) es) [
      | Some o ↦ numbers_kept (is_at (nat_cmp number)) es (f o)
      | None ↦ refl
    ]

stamps_changed : (number : ℕ) (f : Object → Object) (es : List (ℕ × Object)) → ((o : Object) → (f o).stamp ≡ o.stamp) → (s : ℕ) → has_stamp (changed number f es) s ≡ has_stamp es s
stamps_changed number f es keeps s =
    elim (lookup (is_at (nat_cmp number)) es) as (λ found. lookup (is_at (nat_cmp number)) es ≡ found → has_stamp (option_map_or (λ o. set_value (is_at (nat_cmp number)) es (f o)) found es) s ≡ has_stamp es s) [
      | Some o ↦ λ is. stamps_kept number es o (f o) is (keeps o) s
      | None ↦ λ _. refl
    ] refl

pub record MayMore (b : Begun) (number offset : ℕ) (more : List ℕ) : Type 0 where
  pub file : kind_of b.world number ≡ Some File
  pub size : length (bytes_of b.world number) ≤ offset
  pub short : offset + length more ≤ b.world.limits.bytes

of_file : (o : Option Kind) → option_map_or is_file o false ≡ true → o ≡ Some File
of_file None h = cc
of_file (Some File) h = refl
of_file (Some Directory) h = cc
of_file (Some Link) h = cc

pub may_more : (b : Begun) (number offset : ℕ) (more : List ℕ) → more_fits b number offset more ≡ true → MayMore b number offset more
may_more b number offset more h =
    let all = and_parts (is_file_at b.world number) (nat_le (length (bytes_of b.world number)) offset && nat_le (offset + length more) b.world.limits.bytes) h in
    let rest = and_parts (nat_le (length (bytes_of b.world number)) offset) (nat_le (offset + length more) b.world.limits.bytes) all.1 in
    record {
      file = of_file (kind_of b.world number) all.0;
      size = at_most (length (bytes_of b.world number)) offset rest.0;
      short = at_most (offset + length more) b.world.limits.bytes rest.1;
    }

pub IsBegun-more : (w : World) (number cookie : ℕ) (numbers stamps : List ℕ) → IsBegun w number cookie numbers stamps
    → (file offset : ℕ) (more : List ℕ) → MayMore (record { world = w; number = number; cookie = cookie }) file offset more → IsBegun (put_more w file offset more) number cookie numbers stamps
IsBegun-more w number cookie numbers stamps begun file offset more may =
    let f = λ (o : Object). let new : Object = record o { bytes = written o.bytes offset more } in new in
    let kinds : kind_of (put_more w file offset more) ≡ kind_of w = fun_ext (option_map-changed (λ o. o.kind) file f w.objects (λ o. refl)) in
    let stamps_same : stamp_of (put_more w file offset more) ≡ stamp_of w = fun_ext (option_map-changed (λ o. o.stamp) file f w.objects (λ o. refl)) in
    let all : IsHeld w.limits w.objects number w.next_tick = record { numbered = begun.numbered; few = begun.few; fit = begun.fit } in
    let held = IsHeld-changed file f w.objects number w.next_tick (λ o is fit. record {
      list = fit.list;
      bytes = let kind : o.kind ≡ File = is_kind o (sym (ap (option_map (λ (o : Object). o.kind)) is) ∙ may.file) in
          subst (λ k. length (written o.bytes offset more) ≤ most_bytes w.limits k) (sym kind) (longer o (subst (λ k. length o.bytes ≤ most_bytes w.limits k) kind fit.bytes));
      change = fit.change;
    }) all in
    record {
      hung = subst (λ k. IsHung k w.names) (sym kinds) begun.hung;
      stamped = subst (λ s. IsStamped s w.next_stamp) (sym stamps_same) begun.stamped;
      numbered = held.numbered;
      listed = begun.listed;
      numbers_left = begun.numbers_left;
      cookies_left = begun.cookies_left;
      few = held.few;
      fit = held.fit;
      limited = begun.limited;
      counted = record { numbers = begun.counted.numbers; ticks = begun.counted.ticks; stamps = begun.counted.stamps; cookies = begun.counted.cookies };
      allowed = begun.allowed;
      numbers_are = begun.numbers_are ∙ sym (numbers_changed file f w.objects);
      stamps_are = λ s. begun.stamps_are s ∙ sym (stamps_changed file f w.objects (λ o. refl) s);
    }
  where
    is_kind : (o : Object) → Some o.kind ≡ Some File → o.kind ≡ File
    is_kind o is = cc

    longer : (o : Object) → length o.bytes ≤ w.limits.bytes → length (written o.bytes offset more) ≤ w.limits.bytes
    longer o fits = rw (length-written o.bytes offset more) (omega (arith, fits, may.short))

-- ---- one more name

IsHung-named : (kinds : ℕ → Option Kind) (names : List Name) (it : Name) → IsHung kinds names → kinds it.directory ≡ Some Directory → IsSome (kinds it.child) → it.child ≢ ROOT
    → (kinds it.child ≡ Some Directory → (m : Name) → IsIn m names → m.child ≡ it.child → ⊥) → option_map (λ (n : Name). n.child) (find (is_named it.directory it.name) names) ≡ None
    → IsHung kinds (names ++ it ∷ [])
IsHung-named kinds names it hung live there below once none =
    let taken = λ (n : Name) (h : IsIn n names) (d : n.directory ≡ it.directory) (s : n.name ≡ it.name). not_found (λ n. n.child) (is_named it.directory it.name) names none n h (named_at it.directory it.name n d s) in
    record {
      root_has_no_name = λ n h. ⊎_elim (λ old. hung.root_has_no_name n old) (λ same at. below (sym (ap (λ (n : Name). n.child) same) ∙ at)) (from_push n it names h);
      ends = λ n h. ⊎_elim (λ old. hung.ends n old) (λ same. subst (λ (n : Name). (kinds n.directory ≡ Some Directory) × IsSome (kinds n.child)) (sym same) (live, there)) (from_push n it names h);
      one_child = λ m n h i d s. ⊎_elim
          (λ a. ⊎_elim (λ b. hung.one_child m n a b d s) (λ b. absurd (taken m a (d ∙ ap (λ (n : Name). n.directory) b) (s ∙ ap (λ (n : Name). n.name) b))) (from_push n it names i))
          (λ a. ⊎_elim (λ b. absurd (taken n b (sym d ∙ ap (λ (n : Name). n.directory) a) (sym s ∙ ap (λ (n : Name). n.name) a))) (λ b. a ∙ sym b) (from_push n it names i))
          (from_push m it names h);
      one_parent = λ m n h i same is. ⊎_elim
          (λ a. ⊎_elim (λ b. hung.one_parent m n a b same is) (λ b. absurd (once (ap kinds (sym (ap (λ (n : Name). n.child) b)) ∙ is) m a (same ∙ ap (λ (n : Name). n.child) b))) (from_push n it names i))
          (λ a. ⊎_elim (λ b. absurd (once (ap kinds (sym (ap (λ (n : Name). n.child) a) ∙ same) ∙ is) n b (sym same ∙ ap (λ (n : Name). n.child) a))) (λ b. a ∙ sym b) (from_push n it names i))
          (from_push m it names h);
    }

of_kind : (o : Option Kind) → option_map_or is_directory o false ≡ true → o ≡ Some Directory
of_kind None h = cc
of_kind (Some File) h = cc
of_kind (Some Directory) h = refl
of_kind (Some Link) h = cc

absent : {X : Type 0} (o : Option X) → not (is_some o) ≡ true → o ≡ None
absent None h = refl
absent (Some x) h = cc

some_kind : (o : Option Object) → is_some o ≡ true → IsSome (option_map (λ (o : Object). o.kind) o)
some_kind None h = cc
some_kind (Some o) h = refl

pub record MayName (b : Begun) (n : Name) : Type 0 where
  pub after : b.cookie ≤ n.cookie
  pub before : n.cookie < b.world.next_cookie
  pub short : length n.name ≤ MAX_NAME
  pub below : n.child ≢ ROOT
  pub there : IsSome (kind_of b.world n.child)
  pub once : kind_of b.world n.child ≡ Some Directory → (m : Name) → IsIn m b.world.names → m.child ≡ n.child → ⊥
  pub links : link_count b.world.names n.child < b.world.limits.links
  pub live : kind_of b.world n.directory ≡ Some Directory
  pub room : name_count b.world.names n.directory < b.world.limits.names
  pub none : child_named b.world n.directory n.name ≡ None

record MayChild (w : World) (child : ℕ) : Type 0 where
  pub there : IsSome (kind_of w child)
  pub once : kind_of w child ≡ Some Directory → (m : Name) → IsIn m w.names → m.child ≡ child → ⊥
  pub links : link_count w.names child < w.limits.links

may_child : (w : World) → 1 < w.limits.links → (child : ℕ) → child_fits w child ≡ true → MayChild w child
may_child w more child h =
    elim (is_directory_at w child) as (λ b. is_directory_at w child ≡ b → cond b (not (has_name w.names child)) (is_some (object w child) && may_link w.limits (link_count w.names child)) ≡ true → MayChild w child) [
      | true ↦ λ is free.
          let none = λ (m : Name) (i : IsIn m w.names) (at : m.child ≡ child). none_passes (λ n. n.child == child) w.names (flipped_back (has_name w.names child) free) m i ((Decides-eqb m.child child).1 at) in
          let zero_links : link_count w.names child ≡ 0 = count_by-none (λ n. n.child == child) w.names (λ m i p. none m i ((Decides-eqb m.child child).0 p)) in
          record { there = ap is_some (of_kind (kind_of w child) is); once = λ _. none; links = let goal : link_count w.names child < w.limits.links = omega (arith, zero_links, more) in goal }
      | false ↦ λ is fits.
          let both = and_parts (is_some (object w child)) (may_link w.limits (link_count w.names child)) fits in
          record {
            there = some_kind (object w child) both.0;
            once = λ dir. absurd (unlike is dir);
            links = (Decides-ltb (link_count w.names child) w.limits.links).0 both.1;
          }
    ] refl h
  where
    unlike : is_directory_at w child ≡ false → kind_of w child ≡ Some Directory → ⊥
    unlike is dir = let t : is_directory_at w child ≡ true = ap (λ (o : Option Kind). option_map_or is_directory o false) dir in cc

pub may_name : (b : Begun) → 1 < b.world.limits.links → (n : Name) → name_fits b n ≡ true → MayName b n
may_name b more n h =
    let w = b.world in
    let place = nat_le b.cookie n.cookie && nat_lt n.cookie w.next_cookie && nat_le (length n.name) MAX_NAME in
    let child = not (n.child == ROOT) && child_fits w n.child in
    let directory = is_directory_at w n.directory && has_room w.limits (name_count w.names n.directory) && not (is_some (child_named w n.directory n.name)) in
    let all = and_parts (place && child) directory h in
    let prefix = and_parts place child all.0 in
    let p1 = and_parts (nat_le b.cookie n.cookie && nat_lt n.cookie w.next_cookie) (nat_le (length n.name) MAX_NAME) prefix.0 in
    let p2 = and_parts (nat_le b.cookie n.cookie) (nat_lt n.cookie w.next_cookie) p1.0 in
    let c = and_parts (not (n.child == ROOT)) (child_fits w n.child) prefix.1 in
    let d1 = and_parts (is_directory_at w n.directory && has_room w.limits (name_count w.names n.directory)) (not (is_some (child_named w n.directory n.name))) all.1 in
    let d2 = and_parts (is_directory_at w n.directory) (has_room w.limits (name_count w.names n.directory)) d1.0 in
    let may = may_child w more n.child c.1 in
    record {
      after = at_most b.cookie n.cookie p2.0;
      before = (Decides-ltb n.cookie w.next_cookie).0 p2.1;
      short = at_most (length n.name) MAX_NAME p1.1;
      below = λ same. let t : (n.child == ROOT) ≡ true = (Decides-eqb n.child ROOT).1 same in let f : (n.child == ROOT) ≡ false = flipped_back (n.child == ROOT) c.0 in cc;
      there = may.there;
      once = may.once;
      links = may.links;
      live = of_kind (kind_of w n.directory) d2.0;
      room = (Decides-ltb (name_count w.names n.directory) w.limits.names).0 d2.1;
      none = absent (child_named w n.directory n.name) d1.1;
    }

pub IsBegun-name : (w : World) (number cookie : ℕ) (numbers stamps : List ℕ) → IsBegun w number cookie numbers stamps
    → (n : Name) → MayName (record { world = w; number = number; cookie = cookie }) n → IsBegun (put_name w n) number (n.cookie + 1) numbers stamps
IsBegun-name w number cookie numbers stamps begun n may = record {
  hung = IsHung-named (kind_of w) w.names n begun.hung may.live may.there may.below may.once (child_sought w.names n.directory n.name ∙ may.none);
  stamped = begun.stamped;
  numbered = begun.numbered;
  listed = Rises-push (λ n. n.cookie) 3 n.cookie w.names n refl (Rises-later (λ n. n.cookie) 3 cookie n.cookie w.names may.after begun.listed);
  numbers_left = begun.numbers_left;
  cookies_left = let b : n.cookie < w.next_cookie = may.before in let goal : n.cookie + 1 ≤ w.next_cookie = omega arith in goal;
  few = begun.few;
  fit = begun.fit;
  limited = IsLimited-push w.names n begun.limited may.room may.links may.short;
  counted = record { numbers = begun.counted.numbers; ticks = begun.counted.ticks; stamps = begun.counted.stamps; cookies = begun.counted.cookies };
  allowed = begun.allowed;
  numbers_are = begun.numbers_are;
  stamps_are = begun.stamps_are;
}

-- ---- the beginning

pub IsBegun-none : (l : Limits) → IsAllowed l → (next_number next_tick next_stamp next_cookie : ℕ) → ROOT ≤ next_number → 3 ≤ next_cookie → next_number ≤ 2 ^ 63 → next_tick ≤ 2 ^ 63 → next_stamp ≤ 2 ^ 63 → next_cookie ≤ 2 ^ 63
    → (numbers stamps : List ℕ) → numbers ≡ [] → stamps ≡ []
    → IsBegun (record { limits = l; objects = []; names = []; next_number = next_number; next_tick = next_tick; next_stamp = next_stamp; next_cookie = next_cookie }) ROOT 3 numbers stamps
IsBegun-none l allowed next_number next_tick next_stamp next_cookie numbers_left cookies_left a b c d numbers stamps numbers_are stamps_are = record {
  hung = record { root_has_no_name = λ n h. absurd h; ends = λ n h. absurd h; one_child = λ m n h. absurd h; one_parent = λ m n h. absurd h };
  stamped = record { apart = λ j k s h. cc; below = λ k s h. cc };
  numbered = (let goal : 1 ≤ 1 = omega arith in goal);
  listed = (let goal : 3 ≤ 3 = omega arith in goal);
  numbers_left = numbers_left;
  cookies_left = cookies_left;
  few = (let goal : 0 ≤ l.objects = omega arith in goal);
  fit = λ k o h. cc;
  limited = record { directories = λ k. (let goal : 0 ≤ l.names = omega arith in goal); links = λ k. (let goal : 0 ≤ l.links = omega arith in goal); short = λ n h. absurd h };
  counted = record { numbers = a; ticks = b; stamps = c; cookies = d };
  allowed = allowed;
  numbers_are = numbers_are;
  stamps_are = λ s. ap (list_any (is_at (nat_cmp s))) stamps_are;
}

pub all_left : (next_number next_tick next_stamp next_cookie : ℕ) → ROOT ≤ next_number → 3 ≤ next_cookie → next_number ≤ 2 ^ 63 → next_tick ≤ 2 ^ 63 → next_stamp ≤ 2 ^ 63 → next_cookie ≤ 2 ^ 63
    → true ≡ counters_fit next_number next_tick next_stamp next_cookie
all_left next_number next_tick next_stamp next_cookie a b c d e f = grind (arith, nat_tests)

-- ---- the end

placed : (p : ℕ → Bool) (es : List (ℕ × Object)) → list_all p (map (λ e. e.0) es) ≡ true → (k : ℕ) (o : Object) → lookup (is_at (nat_cmp k)) es ≡ Some o → p k ≡ true
placed p [] all k o is = cc
placed p (e ∷ es) all k o is =
    let split = and_parts (p e.0) (list_all p (map (λ e. e.0) es)) all in
    elim (is_at (nat_cmp k) e.0) as (λ b. is_at (nat_cmp k) e.0 ≡ b → cond b (Some e.1) (lookup (is_at (nat_cmp k)) es) ≡ Some o → p k ≡ true) [
      | true ↦ λ at _. subst (λ k. p k ≡ true) (sym (is_same k e.0 at)) split.0
      | false ↦ λ _ h. placed p es split.1 k o h
    ] refl is

module _ (w : World) where
  parent_found : (k p : ℕ) → parent_of w k ≡ Some p → Found (λ n. n.directory) (λ n. n.child == k) w.names p
  parent_found k p is =
      elim (is_directory_at w k) as (λ b. cond b (option_map (λ (n : Name). n.directory) (find (λ n. n.child == k) w.names)) None ≡ Some p → Found (λ n. n.directory) (λ n. n.child == k) w.names p) [
        | true ↦ λ h. found (λ n. n.directory) (λ n. n.child == k) w.names p h
        | false ↦ λ h. cc
      ] is

  climbs : (fuel k : ℕ) → climbs_to_root (parent_of w) fuel k ≡ true → (steps : ℕ) × Climbs w.names steps k
  unfolding climbs_to_root
  climbs zero k h = cc
  climbs (suc fuel) k h =
      elim (k == ROOT) as (λ b. (k == ROOT) ≡ b → (b || option_map_or (λ parent. climbs_to_root (parent_of w) fuel parent) (parent_of w k) false) ≡ true → (steps : ℕ) × Climbs w.names steps k) [
        | true ↦ λ at _. (0, (Decides-eqb k ROOT).0 at)
        | false ↦ λ _ h. up (parent_of w k) refl (λ p h. climbs fuel p h) h
      ] refl h
    where
      up : (o : Option ℕ) → parent_of w k ≡ o → ((p : ℕ) → climbs_to_root (parent_of w) fuel p ≡ true → (steps : ℕ) × Climbs w.names steps p) → option_map_or (λ parent. climbs_to_root (parent_of w) fuel parent) o false ≡ true → (steps : ℕ) × Climbs w.names steps k
      up None is again h = cc
      up (Some p) is again h =
          let f = parent_found k p is in
          let r = again p h in
          (suc r.0, (f.name, f.present, (Decides-eqb f.name.child k).0 f.passes, subst (Climbs w.names r.0) (sym f.child_is) r.1))

  module _ (all : list_all (is_placed w) (map (λ e. e.0) w.objects) ≡ true) where
    held : (k : ℕ) (o : Object) → object w k ≡ Some o → k ≢ ROOT → (n : Name) × IsIn n w.names × (n.child ≡ k)
    held k o is below =
        elim (is_directory_at w k) as (λ b. cond b (climbs_to_root (parent_of w) (length w.objects) k) (has_name w.names k) ≡ true → (n : Name) × IsIn n w.names × (n.child ≡ k)) [
          | true ↦ λ h. let way = climbs (length w.objects) k h in by_way way.0 way.1
          | false ↦ λ h. let r = any_passes (λ n. n.child == k) w.names h in (r.name, r.present, (Decides-eqb r.name.child k).0 r.passes)
        ] (placed (is_placed w) w.objects all k o is)
      where
        by_way : (steps : ℕ) → Climbs w.names steps k → (n : Name) × IsIn n w.names × (n.child ≡ k)
        by_way zero way = absurd (below way)
        by_way (suc steps) (n, present, at, up) = (n, present, at)

    reaches_root : (k : ℕ) (o : Object) → object w k ≡ Some o → is_directory_at w k ≡ true → (steps : ℕ) × Climbs w.names steps k
    reaches_root k o is dir = climbs (length w.objects) k (sym (ap (λ b. cond b (climbs_to_root (parent_of w) (length w.objects) k) (has_name w.names k)) dir) ∙ placed (is_placed w) w.objects all k o is)

pub IsSound-whole : (w : World) (number cookie : ℕ) (numbers stamps : List ℕ) → IsBegun w number cookie numbers stamps → is_directory_at w ROOT ≡ true → list_all (is_placed w) (map (λ e. e.0) w.objects) ≡ true → IsSound w
IsSound-whole w number cookie numbers stamps begun root all = record {
  rooted = record {
    root = of_kind (kind_of w ROOT) root;
    root_has_no_name = begun.hung.root_has_no_name;
    ends = begun.hung.ends;
    one_child = begun.hung.one_child;
    one_parent = begun.hung.one_parent;
    held = λ k h below. there k (object w k) refl h below;
    reaches_root = λ k is. way k (object w k) refl is;
  };
  stamped = begun.stamped;
  numbered = Rises-later (λ e. e.0) 1 number w.next_number w.objects begun.numbers_left begun.numbered;
  listed = Rises-later (λ n. n.cookie) 3 cookie w.next_cookie w.names begun.cookies_left begun.listed;
  few = begun.few;
  fit = begun.fit;
  limited = begun.limited;
  counted = begun.counted;
  allowed = begun.allowed;
}
  where
    there : (k : ℕ) (o : Option Object) → object w k ≡ o → IsSome (option_map (λ (o : Object). o.kind) o) → k ≢ ROOT → (n : Name) × IsIn n w.names × (n.child ≡ k)
    there k None is h below = let no : is_some {T = Kind} None ≡ true = h in cc
    there k (Some o) is h below = held w all k o is below

    way : (k : ℕ) (o : Option Object) → object w k ≡ o → option_map (λ (o : Object). o.kind) o ≡ Some Directory → (steps : ℕ) × Climbs w.names steps k
    way k None is h = cc
    way k (Some o) is h = reaches_root w all k o is (ap (λ (o : Option Kind). option_map_or is_directory o false) (ap (option_map (λ (o : Object). o.kind)) is ∙ h))

-- ---- the walk up, step by step

pub at_root : (parents : ℕ → Option ℕ) (left here : ℕ) → here ≡ ROOT → climbs_to_root parents (suc left) here ≡ true
unfolding climbs_to_root
at_root parents left here same = ap (λ b. b || option_map_or (λ parent. climbs_to_root parents left parent) (parents here) false) ((Decides-eqb here ROOT).1 same)

pub one_up : (parents : ℕ → Option ℕ) (left here : ℕ) (parent : Option ℕ) → (here ≡ ROOT → ⊥) → parents here ≡ parent → climbs_to_root parents (suc left) here ≡ option_map_or (λ parent. climbs_to_root parents left parent) parent false
unfolding climbs_to_root
one_up parents left here parent apart up =
    elim (here == ROOT) as (λ b. (here == ROOT) ≡ b → (b || option_map_or (λ parent. climbs_to_root parents left parent) (parents here) false) ≡ option_map_or (λ parent. climbs_to_root parents left parent) parent false) [
      | true ↦ λ is. absurd (apart ((Decides-eqb here ROOT).0 is))
      | false ↦ λ is. ap (λ o. option_map_or (λ parent. climbs_to_root parents left parent) o false) up
    ] refl

abbrev pub GoesUp : (ℕ → Option ℕ) → ℕ → ℕ → ℕ → ℕ → Type 0
GoesUp parents steps counter here from = climbs_to_root parents (steps - counter) here ≡ climbs_to_root parents steps from

pub begins : (parents : ℕ → Option ℕ) (steps from : ℕ) → GoesUp parents steps 0 from from
begins parents steps from = let e : steps - 0 ≡ steps = omega arith in ap (λ n. climbs_to_root parents n from) e

pub arrives : (parents : ℕ → Option ℕ) (steps counter here from : ℕ) → counter < steps → here ≡ ROOT → GoesUp parents steps counter here from → true ≡ climbs_to_root parents steps from
arrives parents steps counter here from below same on =
    let e : steps - counter ≡ suc (steps - (counter + 1)) = omega arith in
    sym (ap (λ n. climbs_to_root parents n here) e ∙ at_root parents (steps - (counter + 1)) here same) ∙ on

goes_up : (parents : ℕ → Option ℕ) (steps counter here from : ℕ) (parent : Option ℕ) → counter < steps → (here ≡ ROOT → ⊥) → parents here ≡ parent → GoesUp parents steps counter here from
    → option_map_or (λ parent. climbs_to_root parents (steps - (counter + 1)) parent) parent false ≡ climbs_to_root parents steps from
goes_up parents steps counter here from parent below apart up on =
    let e : steps - counter ≡ suc (steps - (counter + 1)) = omega arith in
    sym (ap (λ n. climbs_to_root parents n here) e ∙ one_up parents (steps - (counter + 1)) here parent apart up) ∙ on

pub ends : (parents : ℕ → Option ℕ) (steps counter here from : ℕ) → counter < steps → (here ≡ ROOT → ⊥) → parents here ≡ None → GoesUp parents steps counter here from → false ≡ climbs_to_root parents steps from
ends parents steps counter here from below apart up on = goes_up parents steps counter here from None below apart up on

pub goes_on : (parents : ℕ → Option ℕ) (steps counter here from parent : ℕ) → counter < steps → (here ≡ ROOT → ⊥) → parents here ≡ Some parent → GoesUp parents steps counter here from
    → GoesUp parents steps (counter + 1) parent from
goes_on parents steps counter here from parent below apart up on = goes_up parents steps counter here from (Some parent) below apart up on

pub runs_out : (parents : ℕ → Option ℕ) (steps counter here from : ℕ) → steps ≤ counter → GoesUp parents steps counter here from → false ≡ climbs_to_root parents steps from
unfolding climbs_to_root
runs_out parents steps counter here from past on = let e : steps - counter ≡ 0 = omega arith in sym (ap (λ n. climbs_to_root parents n here) e) ∙ on

pub IsSound-begun : (w : World) (number cookie : ℕ) (numbers stamps : List ℕ) → IsBegun w number cookie numbers stamps → is_whole w ≡ true → IsSound w
IsSound-begun w number cookie numbers stamps begun h =
    let parts = and_parts (is_directory_at w ROOT) (list_all (is_placed w) (map (λ e. e.0) w.objects)) h in
    IsSound-whole w number cookie numbers stamps begun parts.0 parts.1
