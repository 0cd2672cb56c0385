-- Objects keep their properties: rising numbers, a bounded count, and the limits.
use Rattle.std.proofs.Common.{◌≡◌, ℕ, suc, ◌+◌, ◌^◌, ◌<◌, ◌≤◌, Bool, true, false, not, cond, List, [], ◌∷◌, ◌++◌, length, refl, ap, sym, ◌∙◌, subst, arith, Some, None, length-append}
use Rattle.std.specs.Prelude.{Option}
use Rattle.std.specs.Ordering.{nat_cmp}
use Rattle.std.specs.Map.{lookup}
use Rattle.std.specs.BTreeMap.{is_at, insert_entry}
use Rattle.std.specs.List.{filter}
use Rattle.std.proofs.Math.Logic.{⊎_elim}
use Rattle.node_tree.specs.declared.at.At.{At}
use Rattle.acl_list.specs.declared.entry.Kind.{Kind}
use Rattle.acl_list.specs.declared.entry.Kind.TheVariants.{File, Directory, Link}
use Rattle.nfs_types.specs.Limits.{Limits, IsAllowed}
use Rattle.node_tree.specs.World.{Object, Name, has_name}
use Rattle.node_tree.specs.Changes.{changed, without, touched, retold, released}
use Rattle.node_tree.specs.Contents.{most_held}
use Rattle.node_tree.specs.Sound.{Rises, IsFit, most_bytes}
use Rattle.node_tree.proofs.Objects.{Changed, Kept, changed_cases, lookup-without, lookup-inserted, length-changed}
use Rattle.node_tree.proofs.Rising.{Rises-changed, Rises-filter, Rises-push, inserted_last}

-- ---- counts of bytes

-- the bytes of an object within the limits are few enough for memory
pub most_is_held : (l : Limits) → IsAllowed l → (k : Kind) (n : ℕ) → n ≤ most_bytes l k → n ≤ most_held k
most_is_held l allowed File n le = let few : l.bytes < 2 ^ 62 = allowed.bytes in let most : n ≤ l.bytes = le in let goal : n ≤ 2 ^ 62 = omega arith in goal
most_is_held l allowed Directory n le = le
most_is_held l allowed Link n le = let most : n ≤ 1024 = le in let goal : n ≤ 2 ^ 62 = omega arith in goal

-- ---- objects

pub record IsHeld (l : Limits) (objects : List (ℕ × Object)) (next_number next_tick : ℕ) : Type 0 where
  pub numbered : Rises (λ e. e.0) 1 objects next_number
  pub few : length objects ≤ l.objects
  pub fit : (k : ℕ) (o : Object) → lookup (is_at (nat_cmp k)) objects ≡ Some o → IsFit l next_tick o

fit_later : {l : Limits} (t u : ℕ) (o : Object) → t ≤ u → IsFit l t o → IsFit l u o
fit_later t u o le fit = record { list = fit.list; bytes = fit.bytes; change = let c : o.change < t = fit.change in let goal : o.change < u = omega arith in goal }

pub IsHeld-later : {l : Limits} (es : List (ℕ × Object)) (n t u : ℕ) → t ≤ u → IsHeld l es n t → IsHeld l es n u
IsHeld-later es n t u le held = record { numbered = held.numbered; few = held.few; fit = λ k o is. fit_later t u o le (held.fit k o is) }

pub IsHeld-changed : {l : Limits} (number : ℕ) (f : Object → Object) (es : List (ℕ × Object)) (n t : ℕ) → ((o : Object) → lookup (is_at (nat_cmp number)) es ≡ Some o → IsFit l t o → IsFit l t (f o)) → IsHeld l es n t → IsHeld l (changed number f es) n t
IsHeld-changed {l} number f es n t fits held = record {
  numbered = Rises-changed number f 1 n es held.numbered;
  few = rw (length-changed number f es) held.few;
  fit = λ k o is. ⊎_elim
      (λ (c : Changed number f es k o). subst (IsFit l t) (sym c.new) (fits c.old (subst (λ k. lookup (is_at (nat_cmp k)) es ≡ Some c.old) (sym c.here) c.was_present) (held.fit k c.old c.was_present)))
      (λ (c : Kept number es k o). held.fit k o c.was_present)
      (changed_cases number f es k o is);
}

pub IsFit-touched : {l : Limits} (at : At) (t : ℕ) (o : Object) → at.tick < t → IsFit l t o → IsFit l t (touched at o)
IsFit-touched at t o due fit = record { list = fit.list; bytes = fit.bytes; change = due }

pub IsFit-retold : {l : Limits} (at : At) (t : ℕ) (o : Object) → at.tick < t → IsFit l t o → IsFit l t (retold at o)
IsFit-retold at t o due fit = record { list = fit.list; bytes = fit.bytes; change = due }

pub IsHeld-touched : {l : Limits} (number : ℕ) (at : At) (es : List (ℕ × Object)) (n t : ℕ) → at.tick < t → IsHeld l es n t → IsHeld l (changed number (touched at) es) n t
IsHeld-touched number at es n t due = IsHeld-changed number (touched at) es n t (λ o is fit. IsFit-touched at t o due fit)

pub IsHeld-retold : {l : Limits} (number : ℕ) (at : At) (es : List (ℕ × Object)) (n t : ℕ) → at.tick < t → IsHeld l es n t → IsHeld l (changed number (retold at) es) n t
IsHeld-retold number at es n t due = IsHeld-changed number (retold at) es n t (λ o is fit. IsFit-retold at t o due fit)

length-filter-le : (p : (ℕ × Object) → Bool) (es : List (ℕ × Object)) → length (filter p es) ≤ length es
length-filter-le p [] = omega arith
length-filter-le p (e ∷ es) = let rest : length (filter p es) ≤ length es = length-filter-le p es in
    elim (p e) as (λ b. length (cond b (e ∷ filter p es) (filter p es)) ≤ suc (length es)) [ true ↦ omega arith | false ↦ omega arith ]

IsHeld-without : {l : Limits} (number : ℕ) (es : List (ℕ × Object)) (n t : ℕ) → IsHeld l es n t → IsHeld l (without number es) n t
IsHeld-without {l} number es n t held = record {
  numbered = Rises-filter (λ e. e.0) (λ e. not (is_at (nat_cmp number) e.0)) 1 n es held.numbered;
  few = let a : length (without number es) ≤ length es = length-filter-le (λ e. not (is_at (nat_cmp number) e.0)) es in let b : length es ≤ l.objects = held.few in let goal : length (without number es) ≤ l.objects = omega arith in goal;
  fit = λ k o is. held.fit k o (there (is_at (nat_cmp number) k) (lookup (is_at (nat_cmp k)) es) o (sym (lookup-without number k es) ∙ is));
}
  where
    there : (b : Bool) (found : Option Object) (o : Object) → cond b None found ≡ Some o → found ≡ Some o
    there true found o is = cc
    there false found o is = is

pub IsHeld-released : {l : Limits} (names : List Name) (number : ℕ) (at : At) (es : List (ℕ × Object)) (n t : ℕ) → at.tick < t → IsHeld l es n t → IsHeld l (released names number at es) n t
IsHeld-released {l} names number at es n t due held =
    elim (has_name names number) as (λ b. IsHeld l (cond b (changed number (retold at) es) (without number es)) n t) [
      | true ↦ IsHeld-retold number at es n t due held
      | false ↦ IsHeld-without number es n t held
    ]

pub IsHeld-inserted : {l : Limits} (es : List (ℕ × Object)) (n t : ℕ) (o : Object) → IsFit l t o → length es < l.objects → IsHeld l es n t → IsHeld l (insert_entry nat_cmp es n o) (n + 1) t
IsHeld-inserted {l} es n t o fit room held = record {
  numbered = subst (λ l. Rises (λ (e : ℕ × Object). e.0) 1 l (n + 1)) (sym last) (Rises-push (λ e. e.0) 1 n es (n, o) refl held.numbered);
  few = let a : length (insert_entry nat_cmp es n o) ≡ length es + 1 = ap length last ∙ length-append es ((n, o) ∷ []) in let goal : length (insert_entry nat_cmp es n o) ≤ l.objects = omega arith in goal;
  fit = λ k p is. there (is_at (nat_cmp k) n) (lookup (is_at (nat_cmp k)) es) k p refl (sym (lookup-inserted n k o es) ∙ is);
}
  where
    last : insert_entry nat_cmp es n o ≡ es ++ (n, o) ∷ []
    last = inserted_last 1 n es o held.numbered

    there : (b : Bool) (found : Option Object) (k : ℕ) (p : Object) → lookup (is_at (nat_cmp k)) es ≡ found → cond b (Some o) found ≡ Some p → IsFit l t p
    there true found k p was_present is = let same : o ≡ p = cc in subst (IsFit l t) same fit
    there false found k p was_present is = held.fit k p (was_present ∙ is)
