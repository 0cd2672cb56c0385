-- The beginning of a COMPOUND with sessions: its first operation (RFC 8881, sections 2.10.6.2 to 2.10.6.4 and 16.2).
use Rattle.std.specs.Prelude.{ℕ, ◌==◌, nat_lt, if◌then◌else◌, List}
use Rattle.xdr_wire.specs.Xdr.{Value}
use Rattle.nfs_types.specs.declared.status.Status.{Status}
use Rattle.nfs_types.specs.declared.status.Status.TheVariants as statuses
use Rattle.nfs_ops.specs.Forms.{sequence_args}
use Rattle.nfs_ops.specs.Operations.{Operation, Known, Unsupported, Illegal, Bad, illegal, next_at, number_of}
use Rattle.nfs_ops.specs.Rows.{row}
use Rattle.nfs_ops.specs.declared.OpKind.TheVariants as kinds
use Rattle.compound_run.specs.Limits.{MINOR_VERSION}

pub data Beginning : Type 0 where
  -- no operation is run, and this is the COMPOUND's status
  Ends : Status → Beginning
  -- the first operation, of this number, is refused
  Refuses : ℕ → Status → Beginning
  -- the operation is the only one
  Acts : Operation → Beginning
  -- SEQUENCE, and the bytes of the operations after it
  Follows : Value sequence_args → List ℕ → Beginning

-- an operation that must be the only one
abbrev pub only : ℕ → Operation → Beginning
only count op = if nat_lt 1 count then Refuses (number_of op) statuses.NotOnlyOp else Acts op

-- the beginning of a COMPOUND of `count` operations, from the first of them and the bytes after it
abbrev pub beginning_with : ℕ → Operation → List ℕ → Beginning
beginning_with count (Known kinds.Sequence v) rest = Follows v rest
beginning_with count (Known kinds.ExchangeId v) rest = only count (Known kinds.ExchangeId v)
beginning_with count (Known kinds.CreateSession v) rest = only count (Known kinds.CreateSession v)
beginning_with count (Known kinds.DestroySession v) rest = only count (Known kinds.DestroySession v)
beginning_with count (Known kinds.DestroyClientId v) rest = only count (Known kinds.DestroyClientId v)
beginning_with count (Known k v) rest = Refuses (row k).number statuses.OpNotInSession
beginning_with count (Unsupported n) rest = Refuses n statuses.NotSupp
beginning_with count Illegal rest = Refuses illegal statuses.OpIllegal
beginning_with count (Bad n) rest = Refuses n statuses.BadXdr

-- Another minor version is refused before any operation; a COMPOUND of no operation is OK.
abbrev pub beginning : ℕ → ℕ → List ℕ → Beginning
beginning minor count operations =
    if minor == MINOR_VERSION
    then (if count == 0 then Ends statuses.Ok else beginning_with count (next_at operations).0 (next_at operations).1)
    else Ends statuses.MinorVersMismatch
