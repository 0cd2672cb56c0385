-- The results of the private parts of `read_reply`.
use Rattle.std.specs.Prelude.{Ok}
use Rattle.std.proofs.Common.{inl, inr}
use Rattle.xdr_wire.specs.Xdr.{Value}
use Rattle.xdr_wire.specs.Reading.{◌>>=◌, Read}
use Rattle.rpc_record.specs.Reply.{accepted_reply, rejected_reply}
use Rattle.rpc_record.specs.Answered.{ReplyResult, body_result}

-- the outcome by a body that is MSG_ACCEPTED, or MSG_DENIED
abbrev pub accepted_result : Read (Value accepted_reply) → ReplyResult
accepted_result read = body_result (read >>= λ x. Ok (inl x.0, x.1))

abbrev pub denied_result : Read (Value rejected_reply) → ReplyResult
denied_result read = body_result (read >>= λ x. Ok (inr (inl x.0), x.1))
