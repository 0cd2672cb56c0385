-- The operations of a request, and the call that encodes them.
use Rattle.std.specs.Prelude.{◌≡◌, ◌≤◌, ◌<◌, ◌+◌, ℕ, Bool, true, false, List, ◌++◌, length, map, Some, Result, Ok, Err}
use Rattle.std.specs.List.{flat_map, AllByRecursion}
use Rattle.xdr_wire.specs.Buffer.{Buffer}
use Rattle.rpc_record.specs.Records.{IsRecord}
use Rattle.rpc_record.specs.Identity.{Identity}
use Rattle.rpc_record.specs.Calling.{call_bytes}
use Rattle.nfs_ops.specs.Operations.{Operation, number_of}
use Rattle.nfs_client.specs.Compound.{IsSpelled, Call, IsCall, head_bytes, op_bytes, most_sent, IsTooLarge, AreTooLarge}
use Rattle.nfs_client.specs.declared.request.Request.{Request}
use Rattle.nfs_client.specs.declared.fault.ToolFault.{ToolFault}
use Rattle.nfs_client.specs.declared.fault.ToolFault.TheVariants.{Memory, TooLarge}

abbrev pub asked_of : List Operation → List ℕ
asked_of ops = map number_of ops

-- The bytes are these operations, and all further ones that a record may have fit.
pub record Fits (body : Buffer) (ops : List Operation) : Type 0 where
  pub bytes : body.bytes ≡ flat_map op_bytes ops
  pub room : length body.bytes + body.room ≡ most_sent
  pub spelled : AllByRecursion IsSpelled ops

-- the bytes of operations, unless they are too large for a record
abbrev pub Holds : Bool → Buffer → List Operation → Type 0
Holds true body ops = AreTooLarge ops
Holds false body ops = Fits body ops

-- the request has these operations
pub record Asks {A : Type 0} (request : Request A) (ops : List Operation) : Type 0 where
  pub numbers : request.asked.items ≡ asked_of ops
  pub holds : Holds request.is_too_large request.body ops

-- no fault but `Memory`
abbrev pub PutGives : {X : Type 0} → Result X ToolFault → Type 0
PutGives (Ok done) = Unit {0}
PutGives (Err fault) = fault ≡ Memory

-- the bytes before `count` operations
abbrev pub HeadGives : ℕ → Identity → ℕ → Result Buffer ToolFault → Type 0
HeadGives xid caller count (Ok head) = head.bytes ≡ call_bytes xid (Some caller) ++ head_bytes count
HeadGives xid caller count (Err fault) = fault ≡ Memory

-- The content as one record; or it is too large for a record. An allocation fails only for a content that isn't.
abbrev pub OneRecordGives : {X : Type 0} → (X → List ℕ) → List ℕ → Result X ToolFault → Type 0
OneRecordGives bytes content (Ok call) = IsRecord content (bytes call)
OneRecordGives bytes content (Err TooLarge) = most_sent < length content
OneRecordGives bytes content (Err Memory) = length content ≤ most_sent
OneRecordGives bytes content (Err fault) = ⊥

-- The call as one record; or it is too large for a record. An allocation fails only if the operations alone aren't
-- too large.
abbrev pub SpellGives : {X : Type 0} → (X → List ℕ) → Call → Result X ToolFault → Type 0
SpellGives bytes call (Ok spelled) = IsCall call (bytes spelled)
SpellGives bytes call (Err TooLarge) = IsTooLarge call
SpellGives bytes call (Err Memory) = length (flat_map op_bytes call.ops) ≤ most_sent
SpellGives bytes call (Err fault) = ⊥
