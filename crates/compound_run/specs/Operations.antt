-- The meaning of each operation at its place (RFC 8881, section 18): one line for each supported operation, in the
-- order of the standard. The other operations answer NOTSUPP once they are decoded, as do the operations of sessions
-- without a session. Of the latter, RECLAIM_COMPLETE alone runs after a SEQUENCE.
pub mod Access
pub mod Close
pub mod Commit
pub mod Create
pub mod Getattr
pub mod Getfh
pub mod Link
pub mod Lookup
pub mod Lookupp
pub mod Nverify
pub mod Open
pub mod Putfh
pub mod Putrootfh
pub mod Read
pub mod Readdir
pub mod Readlink
pub mod Remove
pub mod Rename
pub mod Restorefh
pub mod Savefh
pub mod Setattr
pub mod Verify
pub mod Write
pub mod ReclaimComplete
use Rattle.std.specs.Prelude.{ℕ, Bool, true, false, ◌&&◌, nat_lt, is_none, if◌then◌else◌, ◌∷◌, Option, Some, None}
use Rattle.nfs_types.specs.declared.status.Status.{Status}
use Rattle.nfs_types.specs.declared.status.Status.TheVariants as statuses
use Rattle.nfs_ops.specs.Operations.{Operation, Known, Unsupported, Illegal, Bad, illegal, placement_of}
use Rattle.nfs_ops.specs.declared.op_kind.Placement.{Placement}
use Rattle.nfs_ops.specs.declared.op_kind.Placement.TheVariants.{Anywhere, InSession, First, Alone}
use Rattle.nfs_ops.specs.Rows.{row}
use Rattle.nfs_ops.specs.declared.OpKind.TheVariants as kinds
use Rattle.compound_run.specs.declared.context.Calling.{Calling}
use Rattle.compound_run.specs.declared.filehandles.FileHandles.{FileHandles}
use Rattle.compound_run.specs.Limits.{MIN_ROOM}
use Rattle.compound_run.specs.Context.{Context}
use Rattle.compound_run.specs.Faults.{MayFault, first_fault, first_may}
use Rattle.compound_run.specs.Questions.{is_valid}
use Rattle.compound_run.specs.Meaning.{Meaning, refusing, too_big_for, too_big_may}
use Rattle.compound_run.specs.Operations.Access.{access}
use Rattle.compound_run.specs.Operations.Close.{close}
use Rattle.compound_run.specs.Operations.Commit.{commit}
use Rattle.compound_run.specs.Operations.Create.{create}
use Rattle.compound_run.specs.Operations.Getattr.{getattr}
use Rattle.compound_run.specs.Operations.Getfh.{getfh}
use Rattle.compound_run.specs.Operations.Link.{link}
use Rattle.compound_run.specs.Operations.Lookup.{lookup}
use Rattle.compound_run.specs.Operations.Lookupp.{lookupp}
use Rattle.compound_run.specs.Operations.Nverify.{nverify}
use Rattle.compound_run.specs.Operations.Open.{open_file}
use Rattle.compound_run.specs.Operations.Putfh.{putfh}
use Rattle.compound_run.specs.Operations.Putrootfh.{putrootfh}
use Rattle.compound_run.specs.Operations.Read.{read}
use Rattle.compound_run.specs.Operations.Readdir.{readdir}
use Rattle.compound_run.specs.Operations.Readlink.{readlink}
use Rattle.compound_run.specs.Operations.Remove.{remove}
use Rattle.compound_run.specs.Operations.Rename.{rename}
use Rattle.compound_run.specs.Operations.Restorefh.{restorefh}
use Rattle.compound_run.specs.Operations.Savefh.{savefh}
use Rattle.compound_run.specs.Operations.Setattr.{setattr}
use Rattle.compound_run.specs.Operations.Verify.{verify}
use Rattle.compound_run.specs.Operations.Write.{write}
use Rattle.compound_run.specs.Operations.ReclaimComplete.{reclaim_complete}

-- ---- place

-- The fault of an operation by its place. Without a session the operations of sessions aren't supported. A SEQUENCE
-- can't be followed by another SEQUENCE, nor by an operation that must be the only one of its COMPOUND.
abbrev pub refused_place : Option Calling → Placement → Option Status
refused_place calling Anywhere = None
refused_place None InSession = Some statuses.NotSupp
refused_place None First = Some statuses.NotSupp
refused_place None Alone = Some statuses.NotSupp
refused_place (Some calling) InSession = None
refused_place (Some calling) First = Some statuses.SequencePos
refused_place (Some calling) Alone = Some statuses.NotOnlyOp

-- an operation without a place has no fault of its place
abbrev pub refused_at : Option Calling → Option Placement → Option Status
refused_at calling None = None
refused_at calling (Some placement) = refused_place calling placement

abbrev pub place_fault_in : Option Calling → Operation → Option Status
place_fault_in calling op = refused_at calling (placement_of op)

abbrev pub place_fault : Context → Operation → Option Status
place_fault c op = place_fault_in c.calling op

pub place_may : (c : Context) (op : Operation) → MayFault (place_fault c op)
place_may c op = of c.calling (placement_of op)
  where
    of : (calling : Option Calling) (placement : Option Placement) → MayFault (refused_at calling placement)
    of calling None = tt
    of calling (Some Anywhere) = tt
    of None (Some InSession) = tt
    of None (Some First) = tt
    of None (Some Alone) = tt
    of (Some calling) (Some InSession) = tt
    of (Some calling) (Some First) = tt
    of (Some calling) (Some Alone) = tt

-- ---- room

-- whether an operation of this place runs among others
abbrev pub runs_at : Option Placement → Bool
runs_at None = false
runs_at (Some Anywhere) = true
runs_at (Some InSession) = true
runs_at (Some First) = false
runs_at (Some Alone) = false

-- whether the operation runs among others, and so needs room for its result
abbrev pub is_run : Operation → Bool
is_run op = runs_at (placement_of op)

-- An operation that isn't supported, is illegal or can't be decoded is refused whatever the room is.
abbrev pub room_fault_in : Option Calling → ℕ → Operation → Option Status
room_fault_in calling room op = if is_run op && nat_lt room MIN_ROOM then Some (too_big_for calling) else None

abbrev pub room_fault : Context → Operation → Option Status
room_fault c op = room_fault_in c.calling c.room op

pub room_may : (c : Context) (op : Operation) → MayFault (room_fault c op)
room_may c op = of (is_run op && nat_lt c.room MIN_ROOM)
  where
    of : (b : Bool) → MayFault (if b then Some (too_big_for c.calling) else None)
    of true = too_big_may c.calling
    of false = tt

-- the faults before the operation's own questions: of its place, then of its room
abbrev pub entry_fault_in : Option Calling → ℕ → Operation → Option Status
entry_fault_in calling room op = first_fault (place_fault_in calling op) (room_fault_in calling room op)

abbrev pub entry_fault : Context → Operation → Option Status
entry_fault c op = entry_fault_in c.calling c.room op

pub entry_may : (c : Context) (op : Operation) → MayFault (entry_fault c op)
entry_may c op = first_may (place_fault c op) (room_fault c op) (place_may c op) (room_may c op)

-- ---- the operations

-- the meaning after place and room
abbrev pub body : Context → FileHandles → Operation → Meaning
body c h (Known kinds.Access v) = access v c h
body c h (Known kinds.Close v) = close v c h
body c h (Known kinds.Commit v) = commit c h
body c h (Known kinds.Create v) = create v c h
body c h (Known kinds.GetAttr v) = getattr v c h
body c h (Known kinds.GetFh v) = getfh c h
body c h (Known kinds.Link v) = link v c h
body c h (Known kinds.Lookup v) = lookup v c h
body c h (Known kinds.LookupP v) = lookupp c h
body c h (Known kinds.NVerify v) = nverify v c h
body c h (Known kinds.Open v) = open_file v c h
body c h (Known kinds.PutFh v) = putfh v c h
body c h (Known kinds.PutRootFh v) = putrootfh c h
body c h (Known kinds.Read v) = read v c h
body c h (Known kinds.ReadDir v) = readdir v c h
body c h (Known kinds.ReadLink v) = readlink c h
body c h (Known kinds.Remove v) = remove v c h
body c h (Known kinds.Rename v) = rename v c h
body c h (Known kinds.RestoreFh v) = restorefh c h
body c h (Known kinds.SaveFh v) = savefh c h
body c h (Known kinds.SetAttr v) = setattr v c h
body c h (Known kinds.Verify v) = verify v c h
body c h (Known kinds.Write v) = write v c h
body c h (Known kinds.ReclaimComplete v) = reclaim_complete v c h
body c h (Known k v) = refusing c h (row k).number statuses.NotSupp tt
body c h (Unsupported n) = refusing c h n statuses.NotSupp tt
body c h Illegal = refusing c h illegal statuses.OpIllegal tt
body c h (Bad n) = refusing c h n statuses.BadXdr tt

-- a meaning after a fault, if any
abbrev pub entered : (fault : Option Status) → MayFault fault → Meaning → Meaning
entered fault may m = record m { questions = is_valid fault may ∷ m.questions }

abbrev pub meaning : Context → FileHandles → Operation → Meaning
meaning c h op = entered (entry_fault c op) (entry_may c op) (body c h op)

-- ---- memory

-- Of the supported operations CREATE, LINK, NVERIFY, OPEN, RENAME, SETATTR, VERIFY and WRITE allocate memory, which may
-- fail.
abbrev pub takes_memory : Operation → Bool
takes_memory (Known k v) = (row k).delays && is_run (Known k v)
takes_memory _ = false

-- Once it has its place and its room, an operation that allocates memory may answer DELAY. No other operation ever
-- does.
abbrev pub may_delay : Context → Operation → Bool
may_delay c op = takes_memory op && is_none (entry_fault c op)
