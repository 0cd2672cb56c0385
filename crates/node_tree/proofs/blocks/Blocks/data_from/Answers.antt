use Rattle.std.proofs.Common.{◌≡◌, ◌≢◌, ◌<◌, ◌≤◌, ℕ, Some, None, ◌∙◌, sym, length, map}
use Rattle.std.specs.Prelude.{Option, slice_index, IfSome, IfNone}
use Rattle.std.specs.List.{range_with_len}
use Rattle.node_tree.specs.Blocks.{byte_at}
use Rattle.node_tree.specs.Holes.{IsHole}
use Rattle.node_tree.proofs.Placing.{reads_all}
use Rattle.node_tree.proofs.blocks.Blocks.data_from.Goals as goal

-- what is said of each byte as it is made is said of it as it is read
module _ (f : ℕ → ℕ) (n : ℕ) (zeros : (i : ℕ) → n ≤ i → f i ≡ 0) where
  found_data : (r : Option ℕ) (offset : ℕ) → IfSome r (λ place. (offset ≤ place) × (f place ≢ 0)) → IfSome r (λ place. (offset ≤ place) × (slice_index (map f (range_with_len 0 n)) place ≢ 0))
  found_data None offset h = tt
  found_data (Some place) offset h = (h.0, λ is. h.1 (sym (reads_all f n zeros place) ∙ is))

  skipped : (r : Option ℕ) (offset : ℕ) → IfSome r (λ place. (i : ℕ) → offset ≤ i → i < place → f i ≡ 0) → IfSome r (λ place. IsHole (map f (range_with_len 0 n)) offset place)
  skipped None offset h = tt
  skipped (Some place) offset h = λ i from before. reads_all f n zeros i ∙ h i from before

  none : (r : Option ℕ) (offset : ℕ) → IfNone r ((i : ℕ) → offset ≤ i → f i ≡ 0) → IfNone r (IsHole (map f (range_with_len 0 n)) offset (length (map f (range_with_len 0 n))))
  none None offset h = λ i from before. reads_all f n zeros i ∙ h i from
  none (Some place) offset h = tt

pub returns-clause-data : goal.returns-clause-data
returns-clause-data g c = rw (← c.self.view_is) (found_data (byte_at c.self.inside.blocks.entries) c.self.inside.size c.self.invariant.zeros c.first_data.result c.args.offset c.first_data.ensures.data)

pub returns-clause-skipped : goal.returns-clause-skipped
returns-clause-skipped g c = rw (← c.self.view_is) (skipped (byte_at c.self.inside.blocks.entries) c.self.inside.size c.self.invariant.zeros c.first_data.result c.args.offset c.first_data.ensures.skipped)

pub returns-clause-none : goal.returns-clause-none
returns-clause-none g c = rw (← c.self.view_is) (none (byte_at c.self.inside.blocks.entries) c.self.inside.size c.self.invariant.zeros c.first_data.result c.args.offset c.first_data.ensures.none)
