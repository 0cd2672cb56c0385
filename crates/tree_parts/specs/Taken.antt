-- The parts of a checkpoint, taken in order.
use Rattle.std.specs.Prelude.{ℕ, ◌≡◌, true, List, [], ◌∷◌, Option, Some, None}
use Rattle.std.proofs.Common.{inl, inr}
use Rattle.xdr_wire.specs.Xdr.{Value}
use Rattle.nfs_types.specs.Limits.{Limits}
use Rattle.node_tree.specs.World.{Object, Name}
use Rattle.node_tree.specs.Restored.{Begun, begun, counters_fit, with_object, with_more, with_name}
use Rattle.node_tree.specs.Restored.{object_fits, more_fits, name_fits}
use Rattle.tree_parts.specs.Parts.{part, object_value, name_value}

-- A part that was taken, by the states before it and after it. Counters come first, and only once. An object is taken
-- before the further parts of its bytes.
abbrev pub Takes : Limits → Option Begun → Value part → Begun → Type 0
Takes l None (inl v) new = (counters_fit v.0 v.1.0 v.1.1.0 v.1.1.1 ≡ true) × (new ≡ begun l v.0 v.1.0 v.1.1.0 v.1.1.1)
Takes l None (inr v) new = ⊥
Takes l (Some old) (inl v) new = ⊥
Takes l (Some old) (inr (inl v)) new =
    (number : ℕ) × (o : Object) × (object_value number o ≡ inr (inl v)) × (object_fits old number o ≡ true)
    × (new ≡ with_object old number o)
Takes l (Some old) (inr (inr (inl v))) new =
    (n : Name) × (name_value n ≡ inr (inr (inl v))) × (name_fits old n ≡ true) × (new ≡ with_name old n)
Takes l (Some old) (inr (inr (inr (inl v)))) new =
    (more_fits old v.0 v.1.0 v.1.1 ≡ true) × (new ≡ with_more old v.0 v.1.0 v.1.1)
Takes l (Some old) (inr (inr (inr (inr (inl v))))) new =
    (number : ℕ) × (o : Object) × (object_value number o ≡ inr (inr (inr (inr (inl v)))))
    × (object_fits old number o ≡ true) × (new ≡ with_object old number o)
Takes l (Some old) (inr (inr (inr (inr (inr more))))) new = elim more [ ]

-- all of these parts were taken
abbrev pub TakesAll : Limits → Option Begun → List (Value part) → Option Begun → Type 0
TakesAll l old [] new = old ≡ new
TakesAll l old (v ∷ parts) new = (next : Begun) × Takes l old v next × TakesAll l (Some next) parts new
