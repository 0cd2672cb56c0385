-- The XDR forms of changes of the clients' state (RFC 4506), and the value of a change that was read.
use Rattle.std.specs.Prelude.{[], ◌∷◌}
use Rattle.std.proofs.Common.{inl, inr}
use Rattle.xdr_wire.specs.Xdr.{Xdr, Value, uint, hyper, opaque, union, arm, no_more, fields}
use Rattle.session_slots.specs.Forms.{client, session, call, client_value, session_value}
use Rattle.session_slots.specs.FormViews.{form_client, form_call}
use Rattle.compound_run.specs.Realm.{Opened}
use Rattle.client_parts.specs.declared.change.WrittenChange.{WrittenChange}
use Rattle.client_parts.specs.declared.change.WrittenChange.TheVariants as written

-- the numbers that the next client and the next session get
abbrev pub numbers : Xdr
numbers = fields (hyper ∷ hyper ∷ [])

-- number, client, owner, object, access, seqid
abbrev pub opened : Xdr
opened = fields (hyper ∷ hyper ∷ opaque 1024 ∷ hyper ∷ uint ∷ uint ∷ [])

-- A change is one of these: the numbers of the next client and session, an added record, an added session, a
-- slot's cached call, or an open file, after the others.
abbrev pub change : Xdr
change = union (arm 0 numbers (arm 1 client (arm 2 session (arm 3 call (arm 5 opened no_more)))))

-- the number that the next open gets, and how many changes follow
abbrev pub prefix : Xdr
prefix = fields (hyper ∷ uint ∷ [])

-- the value of a change that was read
abbrev pub written_value : WrittenChange → Value change
written_value (written.Numbers next_client next_session) = inl (next_client, next_session)
written_value (written.Record form) = inr (inl (client_value (form_client form)))
written_value (written.Session form) = inr (inr (inl (session_value form.number form.held)))
written_value (written.Call form) = inr (inr (inr (inl (form_call form))))
written_value (written.Open (number, (client, (owner, (object, (access, seqid)))))) =
    inr (inr (inr (inr (inl (number, (client, (owner.bytes.now, (object, (access, seqid)))))))))

-- the open file of a value
abbrev pub opened_in : Value opened → Opened
opened_in (number, (client, (owner, (object, (access, seqid))))) =
    record { number = number; client = client; owner = owner; object = object; access = access; seqid = seqid }
