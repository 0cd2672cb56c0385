-- The status of a change that the tree refuses (RFC 8881, section 15.1).
use Rattle.nfs_types.specs.declared.status.Status.{Status}
use Rattle.nfs_types.specs.declared.status.Status.TheVariants as statuses
use Rattle.node_tree.specs.declared.fault.TreeFault.{TreeFault}
use Rattle.node_tree.specs.declared.fault.TreeFault.TheVariants as faults

abbrev pub status_at : TreeFault → Status
status_at faults.Exist = statuses.Exist
status_at faults.NoEnt = statuses.NoEnt
status_at faults.NotEmpty = statuses.NotEmpty
status_at faults.Inval = statuses.Inval
status_at faults.FBig = statuses.FBig
status_at faults.MLink = statuses.MLink
status_at faults.NoSpc = statuses.NoSpc
status_at faults.Memory = statuses.Delay
