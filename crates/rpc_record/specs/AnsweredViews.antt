-- The result of `read_reply` by value; and how a client reads a server's reply.
use Rattle.std.specs.Prelude.{ℕ, List, Result, Ok, Err}
use Rattle.rpc_record.specs.declared.answered.ReplyFault.{ReplyFault}
use Rattle.rpc_record.specs.declared.answered.ReplyFault.TheVariants.{ProgUnavail, ProgMismatch, ProcUnavail}
use Rattle.rpc_record.specs.declared.answered.ReplyFault.TheVariants.{GarbageArgs, RpcMismatch, AuthError}
use Rattle.rpc_record.specs.declared.reply.Reply.{Reply}
use Rattle.rpc_record.specs.declared.reply.Reply.TheVariants.{Success, ProgUnavail as Unavailable}
use Rattle.rpc_record.specs.declared.reply.Reply.TheVariants.{ProgMismatch as Mismatch, ProcUnavail as NoProcedure}
use Rattle.rpc_record.specs.declared.reply.Reply.TheVariants.{GarbageArgs as Garbage, RpcMismatch as NotSpoken}
use Rattle.rpc_record.specs.declared.reply.Reply.TheVariants.{AuthError as NotTaken}
use Rattle.rpc_record.specs.Reply.{auth_stat}
use Rattle.rpc_record.specs.Answered.{ReplyResult, without_results}

abbrev pub results : {X : Type 0} → (X → List ℕ) → Result X ReplyFault → ReplyResult
results bytes (Ok lent) = Ok (bytes lent)
results bytes (Err fault) = Err fault

-- A reply that this server writes, followed by these bytes: the results, or the cause if there are none.
abbrev pub read_as : Reply → List ℕ → ReplyResult
read_as Success found = Ok found
read_as Unavailable found = without_results ProgUnavail found
read_as Mismatch found = without_results (ProgMismatch 4 4) found
read_as NoProcedure found = without_results ProcUnavail found
read_as Garbage found = without_results GarbageArgs found
read_as NotSpoken found = without_results (RpcMismatch 2 2) found
read_as (NotTaken why) found = without_results (AuthError (auth_stat why)) found
