-- Names after a filter or a push: which remain, and how many.
use Rattle.std.proofs.Common.{◌≡◌, ℕ, ◌+◌, ◌<◌, ◌≤◌, Bool, true, false, not, ◌&&◌, ◌||◌, cond, List, [], ◌∷◌, ◌++◌, length, refl, ap, sym, ◌∙◌, subst, arith, Some, None, inl, inr, add_comm}
use Rattle.std.specs.Prelude.{◌⊎◌, find, ◌==◌, count_by, nat_eq}
use Rattle.std.specs.List.{filter, list_any}
use Rattle.std.specs.Option.{option_map}
use Rattle.std.specs.Cmp.Lexicographic.{pointwise, bytes_decides}
use Rattle.std.proofs.Math.Logic.{⊎_elim}
use Rattle.std.proofs.lemmas.Bool.Decides.{Decides-eqb}
use Rattle.std.proofs.lemmas.List.Sums.{sum_by-cons, length-filter}
use Rattle.nfs_types.specs.Limits.{Limits}
use Rattle.node_tree.specs.Limits.{MAX_NAME}
use Rattle.node_tree.specs.World.{Name, is_named, names_in, child_in, name_count, link_count}
use Rattle.node_tree.specs.Sound.{IsIn, IsLimited}

-- ---- a filter

pub in_filter : (p : Name → Bool) (n : Name) (names : List Name) → IsIn n names → p n ≡ true → IsIn n (filter p names)
in_filter p n [] present passes = absurd present
in_filter p n (m ∷ names) present passes =
    elim (p m) as (λ b. p m ≡ b → (n ≡ m) ⊎ IsIn n names → IsIn n (cond b (m ∷ filter p names) (filter p names))) [
      | true ↦ λ is. ⊎_elim (λ same. inl same) (λ later. inr (in_filter p n names later passes))
      | false ↦ λ is. ⊎_elim (λ same. let t : p m ≡ true = subst (λ x. p x ≡ true) same passes in cc) (λ later. in_filter p n names later passes)
    ] refl present

-- the names that a filter keeps
pub record Stays (p : Name → Bool) (n : Name) (names : List Name) : Type 0 where
  pub was_present : IsIn n names
  pub passes : p n ≡ true

pub from_filter : (p : Name → Bool) (n : Name) (names : List Name) → IsIn n (filter p names) → Stays p n names
from_filter p n [] present = absurd present
from_filter p n (m ∷ names) present =
    elim (p m) as (λ b. p m ≡ b → IsIn n (cond b (m ∷ filter p names) (filter p names)) → Stays p n (m ∷ names)) [
      | true ↦ λ is. ⊎_elim (λ same. record { was_present = inl same; passes = subst (λ x. p x ≡ true) (sym same) is }) (λ later. let r = from_filter p n names later in record { was_present = inr r.was_present; passes = r.passes })
      | false ↦ λ is later. let r = from_filter p n names later in record { was_present = inr r.was_present; passes = r.passes }
    ] refl present

-- ---- some name passes, or none does

pub record Passing (p : Name → Bool) (names : List Name) : Type 0 where
  pub name : Name
  pub present : IsIn name names
  pub passes : p name ≡ true

pub any_passes : (p : Name → Bool) (names : List Name) → list_any p names ≡ true → Passing p names
any_passes p [] some = cc
any_passes p (m ∷ names) some =
    elim (p m) as (λ b. p m ≡ b → (b || list_any p names) ≡ true → Passing p (m ∷ names)) [
      | true ↦ λ is _. record { name = m; present = inl refl; passes = is }
      | false ↦ λ is rest. let r = any_passes p names rest in record { name = r.name; present = inr r.present; passes = r.passes }
    ] refl some

pub none_passes : (p : Name → Bool) (names : List Name) → list_any p names ≡ false → (n : Name) → IsIn n names → p n ≡ true → ⊥
none_passes p [] none n present passes = present
none_passes p (m ∷ names) none n present passes =
    elim (p m) as (λ b. p m ≡ b → (b || list_any p names) ≡ false → (n ≡ m) ⊎ IsIn n names → ⊥) [
      | true ↦ λ is h _. cc
      | false ↦ λ is h. ⊎_elim (λ same. let t : p m ≡ true = subst (λ x. p x ≡ true) same passes in cc) (λ later. none_passes p names h n later passes)
    ] refl none present

-- the name that a search found
pub record Found {X : Type 0} (read : Name → X) (p : Name → Bool) (names : List Name) (x : X) : Type 0 where
  pub name : Name
  pub present : IsIn name names
  pub passes : p name ≡ true
  pub child_is : read name ≡ x

pub found : {X : Type 0} (read : Name → X) (p : Name → Bool) (names : List Name) (x : X) → option_map read (find p names) ≡ Some x → Found read p names x
found read p [] x is = cc
found {X} read p (m ∷ names) x is =
    elim (p m) as (λ b. p m ≡ b → option_map read (cond b (Some m) (find p names)) ≡ Some x → Found read p (m ∷ names) x) [
      | true ↦ λ at h. record { name = m; present = inl refl; passes = at; child_is = cc }
      | false ↦ λ at h. let r = found read p names x h in record { name = r.name; present = inr r.present; passes = r.passes; child_is = r.child_is }
    ] refl is

pub not_found : {X : Type 0} (read : Name → X) (p : Name → Bool) (names : List Name) → option_map read (find p names) ≡ None → (n : Name) → IsIn n names → p n ≡ true → ⊥
not_found read p [] none n present passes = present
not_found {X} read p (m ∷ names) none n present passes =
    elim (p m) as (λ b. p m ≡ b → option_map read (cond b (Some m) (find p names)) ≡ None → (n ≡ m) ⊎ IsIn n names → ⊥) [
      | true ↦ λ at h _. cc
      | false ↦ λ at h. ⊎_elim (λ same. let t : p m ≡ true = subst (λ x. p x ≡ true) same passes in cc) (λ later. not_found read p names h n later passes)
    ] refl none present

-- ---- a push

pub in_prefix : (n : Name) (xs ys : List Name) → IsIn n xs → IsIn n (xs ++ ys)
in_prefix n [] ys present = absurd present
in_prefix n (m ∷ xs) ys present = ⊎_elim (λ same. inl same) (λ later. inr (in_prefix n xs ys later)) present

pub in_last : (n : Name) (xs : List Name) → IsIn n (xs ++ n ∷ [])
in_last n [] = inl refl
in_last n (m ∷ xs) = inr (in_last n xs)

pub from_push : (n new : Name) (xs : List Name) → IsIn n (xs ++ new ∷ []) → IsIn n xs ⊎ (n ≡ new)
from_push n new [] present = ⊎_elim (λ same. inr same) (λ later. absurd later) present
from_push n new (m ∷ xs) present = ⊎_elim (λ same. inl (inl same)) (λ later. ⊎_elim (λ old. inl (inr old)) (λ it. inr it) (from_push n new xs later)) present

-- ---- a name's place

both : (a b : Bool) → (a && b) ≡ true → (a ≡ true) × (b ≡ true)
both true b h = (refl, h)
both false b h = cc

pub named_directory : (directory : ℕ) (name : List ℕ) (n : Name) → is_named directory name n ≡ true → n.directory ≡ directory
named_directory directory name n h = (Decides-eqb n.directory directory).0 (both (n.directory == directory) _ h).0

pub named_name : (directory : ℕ) (name : List ℕ) (n : Name) → is_named directory name n ≡ true → n.name ≡ name
named_name directory name n h = (bytes_decides n.name name).0 (both (n.directory == directory) _ h).1

pub named_at : (directory : ℕ) (name : List ℕ) (n : Name) → n.directory ≡ directory → n.name ≡ name → is_named directory name n ≡ true
named_at directory name n d s = rw ((Decides-eqb n.directory directory).1 d) ((bytes_decides n.name name).1 s)

find-filter : {X : Type 0} (p q : X → Bool) (xs : List X) → find (λ x. p x && q x) xs ≡ find q (filter p xs)
find-filter p q [] = refl
find-filter p q (x ∷ xs) =
    elim (p x) as (λ b. cond (b && q x) (Some x) (find (λ x. p x && q x) xs) ≡ find q (cond b (x ∷ filter p xs) (filter p xs))) [
      | true ↦ ap (λ o. cond (q x) (Some x) o) (find-filter p q xs)
      | false ↦ find-filter p q xs
    ]

-- the child of a name, searched for among all names
pub child_sought : (names : List Name) (directory : ℕ) (name : List ℕ) → option_map (λ (n : Name). n.child) (find (is_named directory name) names) ≡ child_in (names_in names directory) name
child_sought names directory name = ap (option_map (λ (n : Name). n.child)) (find-filter (λ (n : Name). n.directory == directory) (λ (n : Name). pointwise nat_eq n.name name) names)

pub flipped : (b : Bool) → not b ≡ false → b ≡ true
flipped true h = refl
flipped false h = cc

pub flipped_back : (b : Bool) → not b ≡ true → b ≡ false
flipped_back true h = cc
flipped_back false h = refl

-- ---- how many

step : (q : Name → Bool) (m : Name) (names : List Name) → count_by q (m ∷ names) ≡ cond (q m) 1 0 + count_by q names
step q m names = sum_by-cons (λ n. cond (q n) 1 0) m names

pub count_by-filter : (q p : Name → Bool) (names : List Name) → count_by q (filter p names) ≤ count_by q names
count_by-filter q p [] = omega arith
count_by-filter q p (m ∷ names) =
    let rest : count_by q (filter p names) ≤ count_by q names = count_by-filter q p names in
    let all : count_by q (m ∷ names) ≡ cond (q m) 1 0 + count_by q names = step q m names in
    let kept : count_by q (m ∷ filter p names) ≡ cond (q m) 1 0 + count_by q (filter p names) = step q m (filter p names) in
    elim (p m) as (λ b. count_by q (cond b (m ∷ filter p names) (filter p names)) ≤ count_by q (m ∷ names)) [
      | true ↦ let goal : count_by q (m ∷ filter p names) ≤ count_by q (m ∷ names) = omega arith in goal
      | false ↦ let goal : count_by q (filter p names) ≤ count_by q (m ∷ names) = omega arith in goal
    ]

-- a counted name is filtered out
pub count_by-filter_out : (q p : Name → Bool) (names : List Name) (n : Name) → IsIn n names → q n ≡ true → p n ≡ false → count_by q (filter p names) < count_by q names
count_by-filter_out q p [] n present counts out = absurd present
count_by-filter_out q p (m ∷ names) n present counts out =
    let rest : count_by q (filter p names) ≤ count_by q names = count_by-filter q p names in
    let all : count_by q (m ∷ names) ≡ cond (q m) 1 0 + count_by q names = step q m names in
    let kept : count_by q (m ∷ filter p names) ≡ cond (q m) 1 0 + count_by q (filter p names) = step q m (filter p names) in
    ⊎_elim
    (λ same. let one : cond {A = ℕ} (q m) 1 0 ≡ 1 = ap (λ (b : Bool). cond {A = ℕ} b 1 0) (subst (λ n. q n ≡ true) same counts) in
    subst (λ b. count_by q (cond b (m ∷ filter p names) (filter p names)) < count_by q (m ∷ names)) (sym (subst (λ n. p n ≡ false) same out))
    (let goal : count_by q (filter p names) < count_by q (m ∷ names) = omega (arith, one) in goal))
    (λ later. let less : count_by q (filter p names) < count_by q names = count_by-filter_out q p names n later counts out in
    elim (p m) as (λ b. count_by q (cond b (m ∷ filter p names) (filter p names)) < count_by q (m ∷ names)) [
      | true ↦ let goal : count_by q (m ∷ filter p names) < count_by q (m ∷ names) = omega arith in goal
      | false ↦ let goal : count_by q (filter p names) < count_by q (m ∷ names) = omega arith in goal
    ])
    present

pub count_by-push : (q : Name → Bool) (names : List Name) (n : Name) → count_by q (names ++ n ∷ []) ≡ count_by q names + cond (q n) 1 0
count_by-push q [] n = step q n [] ∙ add_comm (cond (q n) 1 0) 0
count_by-push q (m ∷ names) n =
    let rest : count_by q (names ++ n ∷ []) ≡ count_by q names + cond (q n) 1 0 = count_by-push q names n in
    let all : count_by q (m ∷ names) ≡ cond (q m) 1 0 + count_by q names = step q m names in
    let more : count_by q (m ∷ (names ++ n ∷ [])) ≡ cond (q m) 1 0 + count_by q (names ++ n ∷ []) = step q m (names ++ n ∷ []) in
    let goal : count_by q (m ∷ (names ++ n ∷ [])) ≡ count_by q (m ∷ names) + cond (q n) 1 0 = omega arith in goal

pub count_by-none : (q : Name → Bool) (names : List Name) → ((n : Name) → IsIn n names → q n ≡ true → ⊥) → count_by q names ≡ 0
count_by-none q [] none = refl
count_by-none q (m ∷ names) none =
    let rest : count_by q names ≡ 0 = count_by-none q names (λ n present. none n (inr present)) in
    step q m names ∙ elim (q m) as (λ b. q m ≡ b → cond b 1 0 + count_by q names ≡ 0) [
      | true ↦ λ is. absurd (none m (inl refl) is)
      | false ↦ λ is. let goal : 0 + count_by q names ≡ 0 = omega arith in goal
    ] refl

-- the names of a directory, counted
pub names_counted : (names : List Name) (directory : ℕ) → name_count names directory ≡ count_by (λ n. n.directory == directory) names
names_counted names directory = length-filter (λ n. n.directory == directory) names

pub name_count-filter : (p : Name → Bool) (names : List Name) (directory : ℕ) → name_count (filter p names) directory ≤ name_count names directory
name_count-filter p names directory = omega (arith, names_counted (filter p names) directory, names_counted names directory, count_by-filter (λ n. n.directory == directory) p names)

pub name_count-filter_out : (p : Name → Bool) (names : List Name) (directory : ℕ) (n : Name) → IsIn n names → n.directory ≡ directory → p n ≡ false → name_count (filter p names) directory < name_count names directory
name_count-filter_out p names directory n present here out =
    omega (arith, names_counted (filter p names) directory, names_counted names directory, count_by-filter_out (λ n. n.directory == directory) p names n present ((Decides-eqb n.directory directory).1 here) out)

-- ---- the limits

pub IsLimited-filter : {l : Limits} (p : Name → Bool) (names : List Name) → IsLimited l names → IsLimited l (filter p names)
IsLimited-filter {l} p names limited = record {
  directories = λ k. let a : name_count (filter p names) k ≤ name_count names k = name_count-filter p names k in let b : name_count names k ≤ l.names = limited.directories k in let c : name_count (filter p names) k ≤ l.names = omega arith in c;
  links = λ k. let a : link_count (filter p names) k ≤ link_count names k = count_by-filter (λ n. n.child == k) p names in let b : link_count names k ≤ l.links = limited.links k in let c : link_count (filter p names) k ≤ l.links = omega arith in c;
  short = λ n present. limited.short n (from_filter p n names present).was_present;
}

one_more : (q : ℕ → Name → Bool) (names : List Name) (n : Name) (k most : ℕ) → count_by (q k) names ≤ most → (q k n ≡ true → count_by (q k) names < most) → count_by (q k) (names ++ n ∷ []) ≤ most
one_more q names n k most before room =
    let more : count_by (q k) (names ++ n ∷ []) ≡ count_by (q k) names + cond (q k n) 1 0 = count_by-push (q k) names n in
    elim (q k n) as (λ b. q k n ≡ b → count_by (q k) (names ++ n ∷ []) ≡ count_by (q k) names + cond b 1 0 → count_by (q k) (names ++ n ∷ []) ≤ most) [
      | true ↦ λ is e. let r : count_by (q k) names < most = room is in omega arith
      | false ↦ λ is e. omega arith
    ] refl more

-- one more name in a directory that has room
name_more : (names : List Name) (n : Name) (k most : ℕ) → name_count names k ≤ most → name_count names n.directory < most → name_count (names ++ n ∷ []) k ≤ most
name_more names n k most before room =
    let counted : count_by (λ n. n.directory == k) names ≤ most = omega (arith, names_counted names k, before) in
    let below : count_by (λ m. m.directory == n.directory) names < most = omega (arith, names_counted names n.directory, room) in
    let more : count_by (λ n. n.directory == k) (names ++ n ∷ []) ≤ most = one_more (λ k n. n.directory == k) names n k most counted (λ is. subst (λ k. count_by (λ n. n.directory == k) names < most) ((Decides-eqb n.directory k).0 is) below) in
    omega (arith, names_counted (names ++ n ∷ []) k, more)

pub IsLimited-push : {l : Limits} (names : List Name) (n : Name) → IsLimited l names → name_count names n.directory < l.names → link_count names n.child < l.links → length n.name ≤ MAX_NAME → IsLimited l (names ++ n ∷ [])
IsLimited-push {l} names n limited room links short = record {
  directories = λ k. name_more names n k l.names (limited.directories k) room;
  links = λ k. one_more (λ k n. n.child == k) names n k l.links (limited.links k) (λ is. subst (λ k. link_count names k < l.links) ((Decides-eqb n.child k).0 is) links);
  short = λ m present. ⊎_elim (λ old. limited.short m old) (λ same. subst (λ (m : Name). length m.name ≤ MAX_NAME) (sym same) short) (from_push m n names present);
}
