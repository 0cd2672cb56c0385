-- The reading of a result (RFC 8881, sections 15.1, 16.2 and 18).
use Rattle.std.specs.Prelude.{ℕ, Bool, true, ◌==◌, ◌&&◌, if◌then◌else◌, List, length, Option, Some, None, Ok, Err}
use Rattle.std.specs.Option.{option_map}
use Rattle.std.specs.Str.{bytes_eq}
use Rattle.xdr_wire.specs.declared.fault.XdrFault.TheVariants.{BadChoice}
use Rattle.xdr_wire.specs.Xdr.{Value, uint}
use Rattle.xdr_wire.specs.Reading.{◌>>=◌, Read as ReadOf, read_at}
use Rattle.xdr_wire.specs.Wire.{in_normal_form}
use Rattle.nfs_types.specs.Forms.{bitmap, trimmed}
use Rattle.nfs_types.specs.StateIds.{closed}
use Rattle.nfs_types.specs.Status.{number_of, status_at}
use Rattle.nfs_ops.specs.Forms.{SERVER_NAME, server_names, server_scope, granted_slot, target_slot}
use Rattle.nfs_ops.specs.Rows.{row, kind_at}
use Rattle.nfs_ops.specs.Results.{Outcome, Done, Refused, SetAttrRefused}
use Rattle.nfs_ops.specs.declared.OpKind.{OpKind}
use Rattle.nfs_ops.specs.declared.OpKind.TheVariants.{Close, SetAttr, ExchangeId, Sequence}

-- this number, if it is that of a status that isn't OK
unfoldable pub refusal_at : ℕ → Option ℕ
refusal_at n = if n == 0 then None else option_map number_of (status_at n)

-- For some results, rules fix more than their forms do; a result that conforms has the fixed value. CLOSE returns the
-- invalid stateid (RFC 8881, section 18.2.4). EXCHANGE_ID returns this server's name, as its owner's major ID (2.5) and
-- as its scope (2.10.4). SEQUENCE asks for as many slots as it grants (18.46.3).
abbrev pub conforms : (k : OpKind) → Value (row k).gives.form → Bool
conforms Close v = (v.0 == closed.0) && bytes_eq v.1 closed.1
conforms ExchangeId v = bytes_eq (server_names v) SERVER_NAME && bytes_eq (server_scope v) SERVER_NAME
conforms Sequence v = target_slot v == granted_slot v
conforms _ v = true

abbrev pub outcome_conforms : Outcome → Bool
outcome_conforms (Done k v) = conforms k v
outcome_conforms _ = true

-- after OK: the result, decoded by the form of this operation's result
unfoldable pub spelled_of : OpKind → List ℕ → ReadOf Outcome
spelled_of k bytes =
    in_normal_form (row k).gives.normal (read_at (row k).gives.form bytes) >>= λ x. Ok (Done k x.0, x.1)

abbrev pub conforming : Outcome × List ℕ → ReadOf Outcome
conforming x = if outcome_conforms x.0 then Ok x else Err BadChoice

-- after OK: the result of this operation
unfoldable pub done_of : OpKind → List ℕ → ReadOf Outcome
done_of k bytes = spelled_of k bytes >>= conforming

abbrev pub done_from : List ℕ → Option OpKind → ReadOf Outcome
done_from bytes (Some k) = done_of k bytes
done_from bytes None = Err BadChoice

-- after a number and OK
unfoldable pub done_at : ℕ → List ℕ → ReadOf Outcome
done_at n bytes = done_from bytes (kind_at n)

-- A SETATTR sets all attributes or none; the bitmap of a refused one is therefore empty (RFC 8881, section 18.30.3).
abbrev pub none_set : ℕ → List ℕ × List ℕ → ReadOf Outcome
none_set status x = if length x.0 == 0 then Ok (SetAttrRefused status, x.1) else Err BadChoice

abbrev pub setattr_refused : ℕ → List ℕ → ReadOf Outcome
setattr_refused status bytes = in_normal_form (Some trimmed) (read_at bitmap bytes) >>= none_set status

-- After a status other than OK: nothing, or the bitmap of SETATTR.
abbrev pub refused_from : ℕ → List ℕ → Option ℕ → ReadOf Outcome
refused_from n bytes (Some status) =
    if n == (row SetAttr).number then setattr_refused status bytes else Ok (Refused n status, bytes)
refused_from n bytes None = Err BadChoice

unfoldable pub refused_at : ℕ → ℕ → List ℕ → ReadOf Outcome
refused_at n status bytes = refused_from n bytes (refusal_at status)

unfoldable pub outcome_after_status : ℕ → ℕ → List ℕ → ReadOf Outcome
outcome_after_status n status bytes = if status == 0 then done_at n bytes else refused_at n status bytes

-- a result, and the bytes after it
unfoldable pub result_at : List ℕ → ReadOf Outcome
result_at bytes = read_at uint bytes >>= λ n. read_at uint n.1 >>= λ status. outcome_after_status n.0 status.0 status.1
