-- A root alone is sound.
use Rattle.std.proofs.Common.{◌≡◌, ℕ, ◌<◌, ◌≤◌, true, false, cond, [], refl, ap, sym, ◌∙◌, subst, arith, Some, None, lit≤}
use Rattle.std.specs.Prelude.{Option, IsSome, is_some}
use Rattle.std.specs.Ordering.{nat_cmp}
use Rattle.std.specs.BTreeMap.{is_at}
use Rattle.std.specs.Option.{option_map}
use Rattle.acl_list.specs.declared.entry.Kind.{Kind}
use Rattle.acl_list.specs.declared.entry.Kind.TheVariants.{Directory}
use Rattle.acl_shape.specs.Bounds.{IsBounded}
use Rattle.nfs_types.specs.Limits.{Limits, IsAllowed}
use Rattle.node_tree.specs.World.{Object, object, kind_of}
use Rattle.node_tree.specs.Changes.{alone}
use Rattle.node_tree.specs.Sound.{IsFit, IsSound}
use Rattle.node_tree.proofs.Objects.{is_same}

-- the root is the only object
only : {X : Type 0} (l : Limits) (read : Object → X) (o : Object) (k : ℕ) (x : X) → option_map read (object (alone l o) k) ≡ Some x → (k ≡ 1) × (read o ≡ x)
only {X} l read o k x is = elim (is_at (nat_cmp k) 1) as (λ b. is_at (nat_cmp k) 1 ≡ b → option_map read (cond b (Some o) None) ≡ Some x → (k ≡ 1) × (read o ≡ x)) [
  | true ↦ λ at h. (is_same k 1 at, cc)
  | false ↦ λ at h. cc
] refl is

pub IsSound-alone : (l : Limits) → IsAllowed l → (o : Object) → o.kind ≡ Directory → o.bytes ≡ [] → IsBounded o.list → o.change ≡ 1 → o.stamp ≡ 1 → IsSound (alone l o)
IsSound-alone l allowed o kind bytes list change stamp = record {
  rooted = record {
    root = ap Some kind;
    root_has_no_name = λ n h. absurd h;
    ends = λ n h. absurd h;
    one_child = λ m n h. absurd h;
    one_parent = λ m n h. absurd h;
    held = λ k h below. absurd (below (there k (kind_of (alone l o) k) refl h));
    reaches_root = λ k is. (0, (only l (λ o. o.kind) o k Directory is).0);
  };
  stamped = record {
    apart = λ j k s a b. (only l (λ o. o.stamp) o j s a).0 ∙ sym (only l (λ o. o.stamp) o k s b).0;
    below = λ k s a. let e : o.stamp ≡ s = (only l (λ o. o.stamp) o k s a).1 in let goal : s < 2 = omega arith in goal;
  };
  numbered = (lit≤ tt, lit≤ tt);
  listed = lit≤ tt;
  few = allowed.root;
  fit = λ k p is. subst (IsFit l 2) (only l (λ o. o) o k p (ap (option_map (λ o. o)) is)).1 (record {
    list = list;
    bytes = rw (kind, bytes) (lit≤ tt);
    change = let goal : o.change < 2 = omega arith in goal;
  });
  limited = record { directories = λ k. (let goal : 0 ≤ l.names = omega arith in goal); links = λ k. (let goal : 0 ≤ l.links = omega arith in goal); short = λ n h. absurd h };
  counted = record { numbers = lit≤ tt; ticks = lit≤ tt; stamps = lit≤ tt; cookies = lit≤ tt };
  allowed = allowed;
}
  where
    there : (k : ℕ) (found : Option Kind) → kind_of (alone l o) k ≡ found → IsSome found → k ≡ 1
    there k None is h = let no : is_some {T = Kind} None ≡ true = h in cc
    there k (Some kind) is h = (only l (λ o. o.kind) o k kind is).0
