-- Replies (RFC 5531, section 9): their form, and how each is encoded.
use Rattle.std.specs.Prelude.{ℕ, List, [], ◌∷◌}
use Rattle.std.proofs.Common.{inl, inr}
use Rattle.xdr_wire.specs.Xdr.{Xdr, Value, void, uint, union, arm, no_more, fields, spelling}
use Rattle.rpc_record.specs.Call.{auth}
use Rattle.rpc_record.specs.declared.reply.AuthStat.{AuthStat}
use Rattle.rpc_record.specs.declared.reply.AuthStat.TheVariants.{BadCred, TooWeak}
use Rattle.rpc_record.specs.declared.reply.Reply.{Reply}
use Rattle.rpc_record.specs.declared.reply.Reply.TheVariants.{Success, ProgUnavail, ProgMismatch, ProcUnavail}
use Rattle.rpc_record.specs.declared.reply.Reply.TheVariants.{GarbageArgs, RpcMismatch, AuthError}

-- mismatch_info: the lowest and the highest version
abbrev pub versions : Xdr
versions = fields (uint ∷ uint ∷ [])

-- how an accepted call ended: SUCCESS, PROG_UNAVAIL, PROG_MISMATCH, PROC_UNAVAIL, GARBAGE_ARGS, SYSTEM_ERR
abbrev pub accept_data : Xdr
accept_data = union (arm 0 void (arm 1 void (arm 2 versions (arm 3 void (arm 4 void (arm 5 void no_more))))))

-- accepted_reply: a verifier, and how the call ended
abbrev pub accepted_reply : Xdr
accepted_reply = fields (auth ∷ accept_data ∷ [])

-- rejected_reply: RPC_MISMATCH with the versions that are supported, or AUTH_ERROR with an auth_stat
abbrev pub rejected_reply : Xdr
rejected_reply = union (arm 0 versions (arm 1 uint no_more))

-- rpc_msg of a reply: the transaction, the type of the message, and MSG_ACCEPTED or MSG_DENIED
abbrev pub reply_message : Xdr
reply_message = fields (uint ∷ uint ∷ union (arm 0 accepted_reply (arm 1 rejected_reply no_more)) ∷ [])

-- the type of a reply is 1, and its verifier is AUTH_NONE's (0) and empty
abbrev pub accepted : ℕ → Value accept_data → Value reply_message
accepted xid end = (xid, (1, inl ((0, []), end)))

abbrev pub denied : ℕ → Value rejected_reply → Value reply_message
denied xid why = (xid, (1, inr (inl why)))

abbrev pub auth_stat : AuthStat → ℕ
auth_stat BadCred = 1
auth_stat TooWeak = 5

abbrev pub view_of_reply : ℕ → Reply → Value reply_message
view_of_reply xid Success = accepted xid (inl tt)
view_of_reply xid ProgUnavail = accepted xid (inr (inl tt))
view_of_reply xid ProgMismatch = accepted xid (inr (inr (inl (4, 4))))
view_of_reply xid ProcUnavail = accepted xid (inr (inr (inr (inl tt))))
view_of_reply xid GarbageArgs = accepted xid (inr (inr (inr (inr (inl tt)))))
view_of_reply xid RpcMismatch = denied xid (inl (2, 2))
view_of_reply xid (AuthError why) = denied xid (inr (inl (auth_stat why)))

-- the bytes of a reply's header
unfoldable pub reply_bytes : ℕ → Reply → List ℕ
reply_bytes xid reply = spelling reply_message (view_of_reply xid reply)

-- the number of bytes of a reply's header
abbrev pub reply_len : Reply → ℕ
reply_len Success = 24
reply_len ProgUnavail = 24
reply_len ProgMismatch = 32
reply_len ProcUnavail = 24
reply_len GarbageArgs = 24
reply_len RpcMismatch = 24
reply_len (AuthError why) = 20
