-- How a client encodes the header of a call (RFC 5531, sections 8.2 and 9, and appendix A).
use Rattle.std.specs.Prelude.{◌+◌, ◌*◌, ℕ, List, [], Option, Some, None, not, ◌==◌, filter, length}
use Rattle.xdr_wire.specs.Xdr.{Xdr, Value, pair, spelling}
use Rattle.rpc_record.specs.Call.{opening, target, auth, authsys}
use Rattle.rpc_record.specs.Identity.{Identity}

-- rpc_msg of a call
abbrev pub call_message : Xdr
call_message = pair opening target

-- the groups of a caller without its gid, by rising number
abbrev pub further_groups : Identity → List ℕ
further_groups caller = filter (λ g. not (g == caller.gid)) caller.groups

-- The stamp is 0 and the machine name is empty: neither counts for the caller.
abbrev pub parms_of : Identity → Value authsys
parms_of caller = (0, ([], (caller.uid, (caller.gid, further_groups caller))))

-- AUTH_NONE (0), which has no data
abbrev pub no_auth : Value auth
no_auth = (0, [])

-- NULL is called under AUTH_NONE, COMPOUND under AUTH_SYS (1)
abbrev pub auth_of : Option Identity → Value auth
auth_of None = no_auth
auth_of (Some caller) = (1, spelling authsys (parms_of caller))

-- NULL (0) has no caller, COMPOUND (1) has a caller
abbrev pub procedure_of : Option Identity → ℕ
procedure_of None = 0
procedure_of (Some caller) = 1

-- a call (0) by version 2 of the protocol, of version 4 of the program 100003 (NFS), with an empty verifier
abbrev pub call_of : ℕ → Option Identity → Value call_message
call_of xid caller = ((xid, (0, 2)), (100003, (4, (procedure_of caller, (auth_of caller, no_auth)))))

-- the bytes of a call's header
unfoldable pub call_bytes : ℕ → Option Identity → List ℕ
call_bytes xid caller = spelling call_message (call_of xid caller)

-- the number of bytes of a call's header
abbrev pub call_len : Option Identity → ℕ
call_len None = 40
call_len (Some caller) = 60 + 4 * length (further_groups caller)
