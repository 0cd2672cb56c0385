-- The permissions, as they are answered.
use Rattle.std.specs.Prelude.{ℕ}
use Rattle.nfs_ops.specs.declared.access.AccessResult.{AccessResult}

abbrev pub rights_value : AccessResult → ℕ × ℕ
rights_value r = (r.supported, r.granted)
