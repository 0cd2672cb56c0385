-- A planned RENAME, carried out in the world in which it was planned.
use Rattle.std.proofs.Common.{◌≡◌, ℕ, ◌<◌, ◌^◌, List, cond, true, false, ap, sym, ◌∙◌, Some, None}
use Rattle.std.specs.Prelude.{Option}
use Rattle.std.specs.Option.{option_map_or, option_or}
use Rattle.node_tree.specs.declared.at.At.{At}
use Rattle.node_tree.specs.declared.fault.TreeFault.TheVariants.{Exist, NoEnt, Inval}
use Rattle.node_tree.specs.World.{World, child_named, is_one, kind_of, parent_of, name_count, has_entries}
use Rattle.node_tree.specs.Refusals.{is_below, may_replace, may_move, is_same, move_refusal, plan_refusal, space_refusal, rename_refusal}
use Rattle.node_tree.specs.Changes.{given_name, with_move, renamed}
use Rattle.node_tree.specs.Sound.{IsSound, IsTick}
use Rattle.node_tree.specs.Moving.{Moving}
use Rattle.node_tree.specs.Moves.{IsMove, IsOf}
use Rattle.node_tree.proofs.Moving.{IsSound-unrefused_move, another, unrefused_move}

-- ---- the child and the target

-- a child that is found gets the name of a target that is found
pub plan_found : (w : World) (from : ℕ) (old : List ℕ) (to : ℕ) (new : List ℕ) (child : ℕ) (target : Option ℕ) → child_named w from old ≡ Some child → child_named w to new ≡ target
    → plan_refusal w from old to new ≡ move_refusal w child to target
plan_found w from old to new child target is taken =
    ap (λ (o : Option ℕ). option_map_or (λ child. move_refusal w child to (child_named w to new)) o (Some NoEnt)) is ∙ ap (move_refusal w child to) taken

pub same_found : (w : World) (from : ℕ) (old : List ℕ) (to : ℕ) (new : List ℕ) (child : ℕ) (target : Option ℕ) → child_named w from old ≡ Some child → child_named w to new ≡ target
    → is_same w from old to new ≡ is_one (Some child) target
same_found w from old to new child target is taken = ap (λ o. is_one o (child_named w to new)) is ∙ ap (is_one (Some child)) taken

-- a rename of the child and the target that were found
pub renamed_with : (w : World) (from : ℕ) (old : List ℕ) (to : ℕ) (new : List ℕ) (child : ℕ) (target : Option ℕ) (at : At) → child_named w from old ≡ Some child → child_named w to new ≡ target → is_one (Some child) target ≡ false
    → with_move w from old (given_name w to new child) target at ≡ renamed w from old to new at
renamed_with w from old to new child target at is taken apart =
    sym (ap (λ b. cond b w (option_map_or (λ c. with_move w from old (given_name w to new c) (child_named w to new) at) (child_named w from old) w)) (ap (λ o. is_one o (child_named w to new)) is ∙ ap (is_one (Some child)) taken ∙ apart)
    ∙ ap (λ (o : Option ℕ). option_map_or (λ c. with_move w from old (given_name w to new c) (child_named w to new) at) o w) is ∙ ap (λ o. with_move w from old (given_name w to new child) o at) taken)

-- ---- a move

module _ (w : World) (m : Moving) (planned : IsMove w m) where
  pub apart_is : is_same w m.from m.old m.to m.new ≡ false
  apart_is = same_found w m.from m.old m.to m.new m.child m.target planned.child planned.target ∙ planned.other

  unrefused_plan : plan_refusal w m.from m.old m.to m.new ≡ None
  unrefused_plan =
      plan_found w m.from m.old m.to m.new m.child m.target planned.child planned.target
      ∙ ap (λ b. cond b None (cond (is_below (kind_of w) (parent_of w) w.next_number m.child m.to) (Some Inval) (cond (may_replace (kind_of w) (has_entries w.names) m.child m.target) None (Some Exist)))) planned.other
      ∙ ap (λ b. cond b (Some Inval) (cond (may_replace (kind_of w) (has_entries w.names) m.child m.target) None (Some Exist))) planned.above ∙ ap (λ b. cond b None (Some Exist)) planned.replaces

  -- once it is planned, a RENAME is refused only for space
  pub refusal_is : rename_refusal w m.from m.old m.to m.new ≡ space_refusal w m.from m.to m.target
  refusal_is =
      ap (λ o. option_or o (cond (is_same w m.from m.old m.to m.new) None (space_refusal w m.from m.to (child_named w m.to m.new)))) unrefused_plan
      ∙ ap (λ b. cond b None (space_refusal w m.from m.to (child_named w m.to m.new))) apart_is ∙ ap (space_refusal w m.from m.to) planned.target

  module _ (sound : IsSound w) (space : may_move w.limits (name_count w.names m.to) w.next_cookie m.from m.to m.target ≡ true) where
    pub cookie_left : w.next_cookie < 2 ^ 63
    cookie_left = (unrefused_move w sound m.from m.to m.child m.target planned.above planned.replaces space).cookie

    pub IsSound-move : (at : At) → IsTick w at.tick → IsSound (with_move w m.from m.old (given_name w m.to m.new m.child) m.target at)
    IsSound-move at tick = IsSound-unrefused_move w sound m.from m.old m.to m.new m.child m.target at tick planned.live planned.short planned.child planned.target (another m.child m.target planned.other) planned.above planned.replaces space

-- ---- a move of these names

module _ (w : World) (m : Moving) (from : ℕ) (old : List ℕ) (to : ℕ) (new : List ℕ) (named : IsOf from old to new m) where
  pub named_refusal : IsMove w m → rename_refusal w from old to new ≡ space_refusal w m.from m.to m.target
  named_refusal planned =
      ap (λ x. rename_refusal w x old to new) (sym named.from_is) ∙ ap (λ (x : List ℕ). rename_refusal w m.from x to new) (sym named.old_is) ∙ ap (λ x. rename_refusal w m.from m.old x new) (sym named.to_is)
      ∙ ap (λ (x : List ℕ). rename_refusal w m.from m.old m.to x) (sym named.new_is) ∙ refusal_is w m planned

  pub named_change : (at : At) → renamed w m.from m.old m.to m.new at ≡ renamed w from old to new at
  named_change at =
      ap (λ x. renamed w x m.old m.to m.new at) named.from_is ∙ ap (λ (x : List ℕ). renamed w from x m.to m.new at) named.old_is ∙ ap (λ x. renamed w from old x m.new at) named.to_is
      ∙ ap (λ (x : List ℕ). renamed w from old to x at) named.new_is
