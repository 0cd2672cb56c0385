-- The parts of a result, re-exported for the crates above.
pub use Rattle.nfs_ops.specs.Views.{result_view, read_view}
