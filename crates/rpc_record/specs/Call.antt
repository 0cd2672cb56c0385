-- Calls (RFC 5531, sections 8.2 and 9, and appendix A): their form, their caller, and their first fault.
use Rattle.std.specs.Prelude.{ℕ, List, [], ◌∷◌, Option, Some, None, Result, Ok, Err, not, ◌==◌, nat_lt, if◌then◌else◌}
use Rattle.xdr_wire.specs.Xdr.{Xdr, Value, uint, opaque, array, fields}
use Rattle.xdr_wire.specs.Reading.{Read, read_at}
use Rattle.rpc_record.specs.Identity.{Identity, identity}
use Rattle.rpc_record.specs.declared.call.CallFault.{CallFault}
use Rattle.rpc_record.specs.declared.call.CallFault.TheVariants.{Header, RpcVersion, Flavor, BadCred, Program, Version}
use Rattle.rpc_record.specs.declared.call.CallFault.TheVariants.{Procedure}

-- rpc_msg and call_body up to the version of the protocol: the transaction, the type of the message, the version
abbrev pub opening : Xdr
opening = fields (uint ∷ uint ∷ uint ∷ [])

-- opaque_auth: a flavor, and data of at most 400 bytes
abbrev pub auth : Xdr
auth = fields (uint ∷ opaque 400 ∷ [])

-- the rest of call_body: program, version of the program, procedure, credential, verifier
abbrev pub target : Xdr
target = fields (uint ∷ uint ∷ uint ∷ auth ∷ auth ∷ [])

-- authsys_parms: stamp, machine name, uid, gid, further gids
abbrev pub authsys : Xdr
authsys = fields (uint ∷ opaque 255 ∷ uint ∷ uint ∷ array 16 uint ∷ [])

abbrev pub xid_of : Value opening → ℕ
xid_of o = o.0

abbrev pub message_type : Value opening → ℕ
message_type o = o.1.0

abbrev pub rpc_version : Value opening → ℕ
rpc_version o = o.1.1

abbrev pub program : Value target → ℕ
program t = t.0

abbrev pub version : Value target → ℕ
version t = t.1.0

abbrev pub procedure : Value target → ℕ
procedure t = t.1.1.0

abbrev pub flavor : Value target → ℕ
flavor t = t.1.1.1.0.0

abbrev pub credential : Value target → List ℕ
credential t = t.1.1.1.0.1

-- the stamp and the machine name don't count for the caller
abbrev pub identity_of : Value authsys → Identity
identity_of v = identity v.1.1.0 v.1.1.1.0 v.1.1.1.1

-- the transaction, the bytes after the header, and the caller, if the procedure needs one
pub record Asked : Type 0 where
  pub xid : ℕ
  pub arguments : List ℕ
  pub caller : Option Identity

abbrev pub CallResult : Type 0
CallResult = Result Asked CallFault

-- the caller, if authsys_parms and nothing more was read
abbrev pub caller_of : Read (Value authsys) → Option Identity
caller_of (Ok (v, [])) = Some (identity_of v)
caller_of (Ok (v, b ∷ rest)) = None
caller_of (Err e) = None

abbrev pub called_by : ℕ → List ℕ → Option Identity → CallResult
called_by xid arguments None = Err (BadCred xid)
called_by xid arguments (Some caller) = Ok (record { xid = xid; arguments = arguments; caller = Some caller })

-- The checks of a whole header, in their order: program 100003 (NFS), version 4, procedure NULL (0) or COMPOUND (1).
-- NULL accepts any credential. COMPOUND requires flavor AUTH_SYS (1), whose data are authsys_parms and nothing more.
abbrev pub judged : ℕ → Value target × List ℕ → CallResult
judged xid (t, arguments) =
    if not (program t == 100003) then Err (Program xid)
    else if not (version t == 4) then Err (Version xid)
    else if nat_lt 1 (procedure t) then Err (Procedure xid)
    else if procedure t == 0 then Ok (record { xid = xid; arguments = arguments; caller = None })
    else if not (flavor t == 1) then Err (Flavor xid)
    else called_by xid arguments (caller_of (read_at authsys (credential t)))

-- the rest of the header can be read, or the record isn't a call
unfoldable pub targeted : ℕ → Read (Value target) → CallResult
targeted xid (Ok x) = judged xid x
targeted xid (Err e) = Err Header

-- The opening can be read and is a call's (0), or the record isn't a call. The protocol's version is 2.
abbrev pub opened : Read (Value opening) → CallResult
opened (Ok (o, rest)) =
    if not (message_type o == 0) then Err Header
    else if not (rpc_version o == 2) then Err (RpcVersion (xid_of o))
    else targeted (xid_of o) (read_at target rest)
opened (Err e) = Err Header

-- the call in a record, or its first fault
abbrev pub asked : List ℕ → CallResult
asked bytes = opened (read_at opening bytes)
