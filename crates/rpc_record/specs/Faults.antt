-- The faults of calls: their numbers, and the reply to each.
use Rattle.std.specs.Prelude.{ℕ, Option, Some, None}
use Rattle.rpc_record.specs.declared.call.CallFault.{CallFault}
use Rattle.rpc_record.specs.declared.call.CallFault.TheVariants.{Header, RpcVersion, Flavor, BadCred, Program, Version}
use Rattle.rpc_record.specs.declared.call.CallFault.TheVariants.{Procedure}
use Rattle.rpc_record.specs.declared.reply.AuthStat.TheVariants.{BadCred as AuthBadCred, TooWeak}
use Rattle.rpc_record.specs.declared.reply.Reply.{Reply}
use Rattle.rpc_record.specs.declared.reply.Reply.TheVariants.{ProgUnavail, ProgMismatch, ProcUnavail, RpcMismatch}
use Rattle.rpc_record.specs.declared.reply.Reply.TheVariants.{AuthError}

abbrev pub number_of : CallFault → ℕ
number_of Header = 1
number_of (RpcVersion xid) = 2
number_of (Flavor xid) = 3
number_of (BadCred xid) = 4
number_of (Program xid) = 5
number_of (Version xid) = 6
number_of (Procedure xid) = 7

-- The transaction and its reply (RFC 5531, section 9). A record that isn't a call has no reply.
abbrev pub reply_to : CallFault → Option (ℕ × Reply)
reply_to Header = None
reply_to (RpcVersion xid) = Some (xid, RpcMismatch)
reply_to (Flavor xid) = Some (xid, AuthError TooWeak)
reply_to (BadCred xid) = Some (xid, AuthError AuthBadCred)
reply_to (Program xid) = Some (xid, ProgUnavail)
reply_to (Version xid) = Some (xid, ProgMismatch)
reply_to (Procedure xid) = Some (xid, ProcUnavail)
