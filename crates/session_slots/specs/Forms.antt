-- The XDR forms of stored clients, sessions and calls (RFC 4506), and the value of each part.
use Rattle.std.specs.Prelude.{ℕ, [], ◌∷◌, Result, Ok, Err}
use Rattle.std.specs.Option.{option_map}
use Rattle.std.proofs.Common.{inl, inr}
use Rattle.rpc_record.specs.Identity.{Identity}
use Rattle.nfs_types.specs.declared.status.Status.{Status}
use Rattle.nfs_types.specs.declared.status.Status.TheVariants as statuses
use Rattle.xdr_wire.specs.Xdr.{Xdr, Value, void, uint, hyper, boolean, opaque, array, optional, union, arm, no_more}
use Rattle.xdr_wire.specs.Xdr.{fields}
use Rattle.session_slots.specs.declared.session.Channel.{Channel}
use Rattle.session_slots.specs.declared.session.Held.{Held}
use Rattle.session_slots.specs.declared.client.Created.{Created}
use Rattle.session_slots.specs.declared.client.Creation.{Creation}
use Rattle.session_slots.specs.Slots.{Cached}
use Rattle.session_slots.specs.Registry.{Client}

-- ---- forms

-- padding, sizes of request, reply and cached reply, operations, slots
abbrev pub channel : Xdr
channel = fields (uint ∷ uint ∷ uint ∷ uint ∷ uint ∷ uint ∷ [])

-- session, sequence ID, whether the session is persistent, the fore channel, the backchannel
abbrev pub created : Xdr
created = fields (hyper ∷ uint ∷ boolean ∷ channel ∷ channel ∷ [])

-- a sequence ID, and the session or one of the refusals that are cached: NOSPC, TOOSMALL and CLID_INUSE, by their
-- numbers
abbrev pub creation : Xdr
creation = fields (uint ∷ union (arm 0 created (arm 28 void (arm 10005 void (arm 10017 void no_more)))) ∷ [])

-- client ID, owner, verifier, user, whether it is confirmed, the last CREATE_SESSION, whether RECLAIM_COMPLETE was
-- received
abbrev pub client : Xdr
client = fields (hyper ∷ opaque 1024 ∷ hyper ∷ uint ∷ boolean ∷ optional creation ∷ boolean ∷ [])

-- number, client ID, the fore channel
abbrev pub session : Xdr
session = fields (hyper ∷ hyper ∷ channel ∷ [])

-- user, group, the groups that the caller is a member of
abbrev pub caller : Xdr
caller = fields (uint ∷ uint ∷ array 17 uint ∷ [])

-- session, slot, sequence ID, caller, arguments, results
abbrev pub call : Xdr
call = fields (hyper ∷ uint ∷ uint ∷ caller ∷ opaque 65536 ∷ opaque 65512 ∷ [])

-- ---- values

abbrev pub channel_value : Channel → Value channel
channel_value c = (c.padding, (c.request_size, (c.reply_size, (c.cached_size, (c.operations, c.slots)))))

abbrev pub created_value : Created → Value created
created_value c = (c.session, (c.sequence, (c.persist, (channel_value c.fore, channel_value c.back))))

-- a refusal that is cached; no other one is
abbrev pub refusal_value : Status → Value (union (arm 28 void (arm 10005 void (arm 10017 void no_more))))
refusal_value statuses.NoSpc = inl tt
refusal_value statuses.TooSmall = inr (inl tt)
refusal_value _ = inr (inr (inl tt))

abbrev pub result_value : Result Created Status
    → Value (union (arm 0 created (arm 28 void (arm 10005 void (arm 10017 void no_more)))))
result_value (Ok c) = inl (created_value c)
result_value (Err status) = inr (refusal_value status)

abbrev pub creation_value : Creation → Value creation
creation_value c = (c.number, result_value c.result)

abbrev pub client_value : Client → Value client
client_value c =
    (c.number, (c.owner, (c.verifier, (c.uid, (c.confirmed, (option_map creation_value c.created, c.reclaimed))))))

abbrev pub session_value : ℕ → Held → Value session
session_value number held = (number, (held.client, channel_value held.granted))

abbrev pub caller_value : Identity → Value caller
caller_value c = (c.uid, (c.gid, c.groups))

abbrev pub call_value : ℕ → ℕ → Cached → Value call
call_value session slot k =
    (session, (slot, (k.call.number, (caller_value k.call.caller, (k.call.arguments, k.results)))))
