-- The names of the operations.
use Rattle.std.specs.Prelude.{ℕ, List, Option}
use Rattle.std.specs.Option.{option_map}
use Rattle.nfs_ops.specs.Rows.{row, kind_at}

-- the name of an operation that this server has (RFC 8881, section 18)
abbrev pub operation_name : ℕ → Option (List ℕ)
operation_name op = option_map (λ k. (row k).name) (kind_at op)
