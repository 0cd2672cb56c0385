-- A COMPOUND as a client writes it, and its results as a client reads them (RFC 8881, sections 16.2.2 and 16.2.4).
use Rattle.std.specs.Prelude.{◌≡◌, ◌<◌, ℕ, ◌==◌, if◌then◌else◌, List, [], ◌∷◌, ◌++◌, length, Option, Some, None, Ok}
use Rattle.std.specs.Prelude.{Err}
use Rattle.std.specs.List.{flat_map, AllByRecursion}
use Rattle.xdr_wire.specs.Xdr.{Xdr, uint, opaque, fields, spelling}
use Rattle.xdr_wire.specs.Reading.{◌>>=◌, Read, read_at, items_at}
use Rattle.rpc_record.specs.Records.{IsRecord}
use Rattle.rpc_record.specs.Identity.{Identity}
use Rattle.rpc_record.specs.Calling.{call_bytes}
use Rattle.rpc_record.specs.Answered.{ReplyResult, answered}
use Rattle.nfs_ops.specs.Items.{ItemHasSpelling, ItemIsNormal, item_spelling}
use Rattle.nfs_ops.specs.Operations.{Operation, op_item}
use Rattle.nfs_ops.specs.Results.{Outcome, outcome_number, outcome_status}
use Rattle.nfs_ops.specs.ResultReading.{result_at}

-- ---- writing

-- COMPOUND4args up to the operations: a tag, the minor version, and the count of operations
abbrev pub compound_head : Xdr
compound_head = fields (opaque 1024 ∷ uint ∷ uint ∷ [])

-- The tag is empty, and the minor version is 1.
abbrev pub head_bytes : ℕ → List ℕ
head_bytes n = spelling compound_head ([], (1, n))

abbrev pub op_bytes : Operation → List ℕ
op_bytes o = item_spelling (op_item o)

abbrev pub compound_bytes : List Operation → List ℕ
compound_bytes ops = head_bytes (length ops) ++ flat_map op_bytes ops

-- an operation can be encoded, and is in normal form
abbrev pub IsSpelled : Operation → Type 0
IsSpelled o = ItemHasSpelling (op_item o) × ItemIsNormal (op_item o)

-- a call: its transaction, its caller, and its operations
pub record Call : Type 0 where
  pub xid : ℕ
  pub caller : Identity
  pub ops : List Operation

-- the bytes of a call in its record
abbrev pub content_of : Call → List ℕ
content_of call = call_bytes call.xid (Some call.caller) ++ compound_bytes call.ops

-- The bytes are a record with the call.
pub record IsCall (call : Call) (bytes : List ℕ) : Type 0 where
  pub content : List ℕ
  pub one_record : IsRecord content bytes
  pub parts : content ≡ content_of call
  pub spelled : AllByRecursion IsSpelled call.ops

-- the most bytes of a record that a server takes
abbrev pub most_sent : ℕ
most_sent = 131072

-- The record of the call would have more bytes.
abbrev pub IsTooLarge : Call → Type 0
IsTooLarge call = most_sent < length (content_of call)

-- an operation alone has more bytes
abbrev pub IsLarge : Operation → Type 0
IsLarge op = most_sent < length (op_bytes op)

-- the operations alone have more bytes
abbrev pub AreTooLarge : List Operation → Type 0
AreTooLarge ops = most_sent < length (flat_map op_bytes ops)

-- ---- reading

-- the status of a COMPOUND, and the results of its operations
pub record Compound : Type 0 where
  pub status : ℕ
  pub results : List Outcome

-- COMPOUND4res: the status, the tag, and the results after their count
abbrev pub compound_at : List ℕ → Read Compound
compound_at bytes =
    read_at uint bytes >>= λ status. read_at (opaque 4294967295) status.1 >>= λ tag. read_at uint tag.1 >>= λ count.
    items_at result_at count.0 count.1 >>= λ results. Ok (record { status = status.0; results = results.0 }, results.1)

-- no bytes follow it
abbrev pub all_of : Read Compound → Option Compound
all_of (Ok (compound, [])) = Some compound
all_of (Ok (compound, b ∷ rest)) = None
all_of (Err fault) = None

-- the answer to a call: all operations are OK; the last one run, of this number, has this status; or the record is no
-- reply
pub data Answer : Type 0 where
  AllDone : Answer
  LastRefused : ℕ → ℕ → Answer
  NoReply : Answer

-- After the last result no operation is left if that result is OK. Its status is the status of the COMPOUND.
abbrev pub ended_by : List ℕ → ℕ → Outcome → Answer
ended_by left status last =
    if outcome_status last == status
    then (if status == 0 then (if length left == 0 then AllDone else NoReply)
    else LastRefused (outcome_number last) status)
    else NoReply

-- The results are those of the first operations sent, at least of one, and all but the last are OK.
abbrev pub answer_of : List ℕ → ℕ → List Outcome → Answer
answer_of asked status [] = NoReply
answer_of [] status (o ∷ os) = NoReply
answer_of (n ∷ left) status (o ∷ os) =
    if outcome_number o == n
    then (if length os == 0 then ended_by left status o else if outcome_status o == 0
    then answer_of left status os else NoReply)
    else NoReply

-- the results of a COMPOUND of the operations of these numbers, with their answer
pub record ReplyResults : Type 0 where
  pub results : List Outcome
  pub answer : Answer

abbrev pub no_reply : ReplyResults
no_reply = record { results = []; answer = NoReply }

abbrev pub results_of_compound : List ℕ → Option Compound → ReplyResults
results_of_compound asked (Some c) = record { results = c.results; answer = answer_of asked c.status c.results }
results_of_compound asked None = no_reply

abbrev pub results_by : List ℕ → ReplyResult → ReplyResults
results_by asked (Ok results) = results_of_compound asked (all_of (compound_at results))
results_by asked (Err fault) = no_reply

-- the answer of a record to the call of this transaction with the operations of these numbers
abbrev pub results_to : ℕ → List ℕ → List ℕ → ReplyResults
results_to xid asked content = results_by asked (answered xid content)
