-- The parts of an operation, re-exported for the crates above.
pub use Rattle.nfs_ops.specs.Views.{op_view, after}
