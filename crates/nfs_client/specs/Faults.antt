-- The numbers of a client's faults.
use Rattle.std.specs.Prelude.{ℕ}
use Rattle.nfs_client.specs.declared.fault.ToolFault.{ToolFault}
use Rattle.nfs_client.specs.declared.fault.ToolFault.TheVariants.{Path, Refused, Reply, Read, Write, Memory, Entry}
use Rattle.nfs_client.specs.declared.fault.ToolFault.TheVariants.{Failed, TooLarge}

abbrev pub number_of : ToolFault → ℕ
number_of Path = 1
number_of (Refused op status) = 2
number_of Reply = 3
number_of Read = 4
number_of Write = 5
number_of Memory = 6
number_of Entry = 7
number_of Failed = 8
number_of TooLarge = 9
