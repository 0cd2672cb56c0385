-- An open, without the place of its filehandle in memory.
use Rattle.nfs_types.specs.Views.{stateid_value}
use Rattle.nfs_client.specs.Put.{Open}
use Rattle.nfs_client.specs.declared.put.Opened.{Opened}

abbrev pub open_value : {A : Type 0} → Opened A → Open
open_value o = record { stateid = stateid_value o.stateid; handle = o.handle.items }
