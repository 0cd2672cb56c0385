-- The reply in a record to a call (RFC 5531, section 9): the results, or why it has none.
use Rattle.std.specs.Prelude.{ℕ, List, [], ◌∷◌, Result, Ok, Err, not, ◌==◌, if◌then◌else◌}
use Rattle.std.proofs.Common.{inl, inr}
use Rattle.xdr_wire.specs.Xdr.{Xdr, Value, uint, union, arm, no_more, fields}
use Rattle.xdr_wire.specs.Reading.{Read, read_at}
use Rattle.rpc_record.specs.Reply.{accept_data, accepted_reply, rejected_reply}
use Rattle.rpc_record.specs.declared.answered.ReplyFault.{ReplyFault}
use Rattle.rpc_record.specs.declared.answered.ReplyFault.TheVariants.{Header, Another, ProgUnavail, ProgMismatch}
use Rattle.rpc_record.specs.declared.answered.ReplyFault.TheVariants.{ProcUnavail, GarbageArgs, SystemErr, RpcMismatch}
use Rattle.rpc_record.specs.declared.answered.ReplyFault.TheVariants.{AuthError}

-- rpc_msg of a reply up to the type of the message: the transaction and that type
abbrev pub beginning : Xdr
beginning = fields (uint ∷ uint ∷ [])

-- reply_body: MSG_ACCEPTED or MSG_DENIED
abbrev pub reply_body : Xdr
reply_body = union (arm 0 accepted_reply (arm 1 rejected_reply no_more))

abbrev pub ReplyResult : Type 0
ReplyResult = Result (List ℕ) ReplyFault

-- a reply without results must end its record
abbrev pub without_results : ReplyFault → List ℕ → ReplyResult
without_results fault [] = Err fault
without_results fault (b ∷ rest) = Err Header

-- how an accepted call ended: the results follow SUCCESS
abbrev pub accepted_as : Value accept_data → List ℕ → ReplyResult
accepted_as (inl done) rest = Ok rest
accepted_as (inr (inl done)) rest = without_results ProgUnavail rest
accepted_as (inr (inr (inl versions))) rest = without_results (ProgMismatch versions.0 versions.1) rest
accepted_as (inr (inr (inr (inl done)))) rest = without_results ProcUnavail rest
accepted_as (inr (inr (inr (inr (inl done))))) rest = without_results GarbageArgs rest
accepted_as (inr (inr (inr (inr (inr (inl done)))))) rest = without_results SystemErr rest
accepted_as (inr (inr (inr (inr (inr (inr v)))))) rest = absurd v

abbrev pub denied_as : Value rejected_reply → List ℕ → ReplyResult
denied_as (inl versions) rest = without_results (RpcMismatch versions.0 versions.1) rest
denied_as (inr (inl why)) rest = without_results (AuthError why) rest
denied_as (inr (inr v)) rest = absurd v

-- the outcome by the body of a reply, with any verifier
abbrev pub ended : Value reply_body → List ℕ → ReplyResult
ended (inl accepted) rest = accepted_as accepted.1 rest
ended (inr (inl denied)) rest = denied_as denied rest
ended (inr (inr v)) rest = absurd v

-- the body can be read, or the record isn't a reply
unfoldable pub body_result : Read (Value reply_body) → ReplyResult
body_result (Ok (body, rest)) = ended body rest
body_result (Err e) = Err Header

-- The beginning can be read and is a reply's (1), or the record isn't a reply. The reply is to this transaction.
abbrev pub begun : ℕ → Read (Value beginning) → ReplyResult
begun xid (Ok ((reply, kind), rest)) =
    if not (kind == 1) then Err Header
    else if not (reply == xid) then Err (Another reply)
    else body_result (read_at reply_body rest)
begun xid (Err e) = Err Header

-- the outcome of a record for the call of this transaction
abbrev pub answered : ℕ → List ℕ → ReplyResult
answered xid bytes = begun xid (read_at beginning bytes)
