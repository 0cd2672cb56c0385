-- The parts of a call, with its bytes by value.
use Rattle.std.specs.Prelude.{Result, Ok, Err, Option, Some, None}
use Rattle.rpc_record.specs.Identity.{Identity}
use Rattle.rpc_record.specs.declared.call.CallFault.{CallFault}
use Rattle.rpc_record.specs.declared.call.Call.{Call}
use Rattle.rpc_record.specs.declared.call.Procedure.{Procedure}
use Rattle.rpc_record.specs.declared.call.Procedure.TheVariants.{Null, Compound}
use Rattle.rpc_record.specs.Call.{Asked, CallResult}

abbrev pub view_of_call : Call → Asked
view_of_call c = record { xid = c.xid; arguments = c.arguments.now; caller = c.caller }

abbrev pub outcome : Result Call CallFault → CallResult
outcome (Ok c) = Ok (view_of_call c)
outcome (Err e) = Err e

-- NULL is the procedure without a caller
abbrev pub procedure_by : Option Identity → Procedure
procedure_by None = Null
procedure_by (Some caller) = Compound
