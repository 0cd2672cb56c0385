-- The bytes of a file, in blocks by number.
use Rattle.std.specs.Prelude.{ℕ, ◌≡◌, ◌<◌, ◌≤◌, ◌*◌, ◌/◌, ◌%◌, Bool, true, List, map, slice_index, is_some}
use Rattle.std.specs.List.{range_with_len}
use Rattle.std.specs.Map.{lookup}
use Rattle.std.specs.BTreeMap.{is_at}
use Rattle.std.specs.Ordering.{nat_cmp}
use Rattle.std.specs.Option.{option_map_or}

-- the byte at a place; in an absent block it is 0
abbrev pub byte_at : List (ℕ × List ℕ) → ℕ → ℕ
byte_at blocks i = option_map_or (λ block. slice_index block (i % 4096)) (lookup (is_at (nat_cmp (i / 4096))) blocks) 0

-- whether the block exists
abbrev pub is_held : List (ℕ × List ℕ) → ℕ → Bool
is_held blocks number = is_some (lookup (is_at (nat_cmp number)) blocks)

-- the bytes of a file of this size
abbrev pub bytes_in : List (ℕ × List ℕ) → ℕ → List ℕ
bytes_in blocks size = map (byte_at blocks) (range_with_len 0 size)

-- The blocks of a file of this size. No block begins at the end of the file or after it, and the bytes after the end
-- are zeros.
pub record AreWithin (blocks : List (ℕ × List ℕ)) (size : ℕ) : Type 0 where
  pub zeros : (i : ℕ) → size ≤ i → byte_at blocks i ≡ 0
  pub few : (k : ℕ) → is_held blocks k ≡ true → k * 4096 < size
