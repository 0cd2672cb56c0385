-- touch: the time of the last access and that of the last change of data are set (RFC 8881, section 18.30).
use Rattle.std.specs.Prelude.{ℕ, List, Some}
use Rattle.xdr_wire.specs.Xdr.{Value}
use Rattle.nfs_types.specs.Seen.{Seen}
use Rattle.nfs_types.specs.Times.{settime}
use Rattle.nfs_ops.specs.Operations.{Operation}
use Rattle.nfs_client.specs.ChOwn.{SetAsks}
use Rattle.nfs_client.specs.Setting.{of_nothing}

-- both times alone, by one `settime4`
abbrev pub of_times : Value settime → Seen
of_times time = record of_nothing { access = Some time; modify = Some time }

abbrev pub TouchAsks : Value settime → List ℕ → List (List ℕ) → Operation → Type 0
TouchAsks time path names op = SetAsks (of_times time) path names op
