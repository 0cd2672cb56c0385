-- Each Rust value, by value: the value of its form.
use Rattle.std.specs.Prelude.{ℕ, List, Some, None}
use Rattle.std.proofs.Common.{inl, inr}
use Rattle.xdr_wire.specs.Xdr.{Value}
use Rattle.xdr_wire.specs.Wire.{at_most_one, array_values, chain_values}
use Rattle.nfs_types.specs.Status.{number_of}
use Rattle.nfs_types.specs.Views.{handle_value, stateid_value, bitmap_value, attributes_value}
use Rattle.nfs_ops.specs.Forms.{zeros, change_info, create_type, open_how, open_claim, entry, entry_normal}
use Rattle.nfs_ops.specs.Forms.{stable_how, implementation, channel, callback_security, access_args, access_result}
use Rattle.nfs_ops.specs.Forms.{close_args, close_result, commit_args, create_args, create_result, getattr_args}
use Rattle.nfs_ops.specs.Forms.{getattr_result, getfh_result, link_args, link_result, lookup_args, nverify_args}
use Rattle.nfs_ops.specs.Forms.{open_args, open_result, putfh_args, read_args, read_result, readdir_args}
use Rattle.nfs_ops.specs.Forms.{readdir_result, readlink_result, remove_args, remove_result, rename_args}
use Rattle.nfs_ops.specs.Forms.{rename_result, setattr_args, setattr_result, verify_args, write_args, write_result}
use Rattle.nfs_ops.specs.Forms.{exchange_id_args, exchange_id_result, create_session_args, create_session_result}
use Rattle.nfs_ops.specs.Forms.{destroy_session_args, sequence_args, sequence_result, destroy_clientid_args}
use Rattle.nfs_ops.specs.Forms.{reclaim_complete_args}
use Rattle.nfs_ops.specs.Operations.{Operation, Known, Unsupported, Illegal, Bad}
use Rattle.nfs_ops.specs.Results.{Outcome, Done, refused, refusal}
use Rattle.nfs_ops.specs.declared.Op.{Op}
use Rattle.nfs_ops.specs.declared.Op.TheVariants as ops
use Rattle.nfs_ops.specs.declared.OpKind.TheVariants as kinds
use Rattle.nfs_ops.specs.declared.OpResult.{OpResult}
use Rattle.nfs_ops.specs.declared.OpResult.TheVariants as results
use Rattle.nfs_ops.specs.declared.change_info.ChangeInfo.{ChangeInfo}
use Rattle.nfs_ops.specs.declared.channel.Channel.{Channel}
use Rattle.nfs_ops.specs.declared.implementation.Implementation.{Implementation}
use Rattle.nfs_ops.specs.declared.create.CreateType.{CreateType}
use Rattle.nfs_ops.specs.declared.create.CreateType.TheVariants as types
use Rattle.nfs_ops.specs.declared.open.OpenHow.{OpenHow}
use Rattle.nfs_ops.specs.declared.open.OpenHow.TheVariants as ways
use Rattle.nfs_ops.specs.declared.open.OpenClaim.{OpenClaim}
use Rattle.nfs_ops.specs.declared.open.OpenClaim.TheVariants as claims
use Rattle.nfs_ops.specs.declared.write.StableHow.{StableHow}
use Rattle.nfs_ops.specs.declared.write.StableHow.TheVariants as reaches
use Rattle.nfs_ops.specs.declared.access.AccessArgs.{AccessArgs}
use Rattle.nfs_ops.specs.declared.access.AccessResult.{AccessResult}
use Rattle.nfs_ops.specs.declared.close.CloseArgs.{CloseArgs}
use Rattle.nfs_ops.specs.declared.close.CloseResult.{CloseResult}
use Rattle.nfs_ops.specs.declared.commit.CommitArgs.{CommitArgs}
use Rattle.nfs_ops.specs.declared.create.CreateArgs.{CreateArgs}
use Rattle.nfs_ops.specs.declared.create.CreateResult.{CreateResult}
use Rattle.nfs_ops.specs.declared.getattr.GetAttrArgs.{GetAttrArgs}
use Rattle.nfs_ops.specs.declared.getattr.GetAttrResult.{GetAttrResult}
use Rattle.nfs_ops.specs.declared.getfh.GetFhResult.{GetFhResult}
use Rattle.nfs_ops.specs.declared.link.LinkArgs.{LinkArgs}
use Rattle.nfs_ops.specs.declared.link.LinkResult.{LinkResult}
use Rattle.nfs_ops.specs.declared.lookup.LookupArgs.{LookupArgs}
use Rattle.nfs_ops.specs.declared.nverify.NVerifyArgs.{NVerifyArgs}
use Rattle.nfs_ops.specs.declared.open.OpenArgs.{OpenArgs}
use Rattle.nfs_ops.specs.declared.open.OpenResult.{OpenResult}
use Rattle.nfs_ops.specs.declared.putfh.PutFhArgs.{PutFhArgs}
use Rattle.nfs_ops.specs.declared.read.ReadArgs.{ReadArgs}
use Rattle.nfs_ops.specs.declared.read.ReadResult.{ReadResult}
use Rattle.nfs_ops.specs.declared.readdir.ReadDirArgs.{ReadDirArgs}
use Rattle.nfs_ops.specs.declared.readdir.ReadDirResult.{ReadDirResult}
use Rattle.nfs_ops.specs.declared.readlink.ReadLinkResult.{ReadLinkResult}
use Rattle.nfs_ops.specs.declared.remove.RemoveArgs.{RemoveArgs}
use Rattle.nfs_ops.specs.declared.remove.RemoveResult.{RemoveResult}
use Rattle.nfs_ops.specs.declared.rename.RenameArgs.{RenameArgs}
use Rattle.nfs_ops.specs.declared.rename.RenameResult.{RenameResult}
use Rattle.nfs_ops.specs.declared.setattr.SetAttrArgs.{SetAttrArgs}
use Rattle.nfs_ops.specs.declared.setattr.SetAttrResult.{SetAttrResult}
use Rattle.nfs_ops.specs.declared.verify.VerifyArgs.{VerifyArgs}
use Rattle.nfs_ops.specs.declared.write.WriteArgs.{WriteArgs}
use Rattle.nfs_ops.specs.declared.write.WriteResult.{WriteResult}
use Rattle.nfs_ops.specs.declared.exchange_id.ExchangeIdArgs.{ExchangeIdArgs}
use Rattle.nfs_ops.specs.declared.exchange_id.ExchangeIdResult.{ExchangeIdResult}
use Rattle.nfs_ops.specs.declared.create_session.CreateSessionArgs.{CreateSessionArgs}
use Rattle.nfs_ops.specs.declared.create_session.CreateSessionResult.{CreateSessionResult}
use Rattle.nfs_ops.specs.declared.destroy_session.DestroySessionArgs.{DestroySessionArgs}
use Rattle.nfs_ops.specs.declared.sequence.SequenceArgs.{SequenceArgs}
use Rattle.nfs_ops.specs.declared.sequence.SequenceResult.{SequenceResult}
use Rattle.nfs_ops.specs.declared.destroy_clientid.DestroyClientIdArgs.{DestroyClientIdArgs}
use Rattle.nfs_ops.specs.declared.reclaim_complete.ReclaimCompleteArgs.{ReclaimCompleteArgs}

abbrev pub zeros_value : Value zeros
zeros_value = (inl tt, inl tt)

abbrev pub change_info_value : ChangeInfo → Value change_info
change_info_value c = (inl tt, (c.before, c.after))

abbrev pub create_type_value : CreateType → Value create_type
create_type_value types.File = inl tt
create_type_value types.Directory = inr (inl tt)
create_type_value (types.Block device) = inr (inr (inl device))
create_type_value (types.Character device) = inr (inr (inr (inl device)))
create_type_value (types.Link text) = inr (inr (inr (inr (inl text.bytes.now))))
create_type_value types.Socket = inr (inr (inr (inr (inr (inl tt)))))
create_type_value types.Fifo = inr (inr (inr (inr (inr (inr (inl tt))))))
create_type_value types.AttributeDirectory = inr (inr (inr (inr (inr (inr (inr (inl tt)))))))
create_type_value types.NamedAttribute = inr (inr (inr (inr (inr (inr (inr (inr (inl tt))))))))

abbrev pub open_how_value : OpenHow → Value open_how
open_how_value ways.NoCreate = inl tt
open_how_value (ways.Unchecked attributes) = inr (inl (inl (attributes_value attributes)))
open_how_value (ways.Guarded attributes) = inr (inl (inr (inl (attributes_value attributes))))

abbrev pub open_claim_value : OpenClaim → Value open_claim
open_claim_value (claims.ByName name) = inl name.bytes.now
open_claim_value claims.ByHandle = inr (inl tt)

abbrev pub stable_how_value : StableHow → Value stable_how
stable_how_value reaches.Unstable = inl tt
stable_how_value reaches.Data = inr (inl tt)
stable_how_value reaches.File = inr (inr (inl tt))

abbrev pub implementation_value : Implementation → Value implementation
implementation_value i = (i.domain.bytes.now, (i.name.bytes.now, (i.date.0, i.date.1)))

abbrev pub channel_value : Channel → Value channel
channel_value c = (
  c.padding,
  (c.request_size, (c.reply_size, (c.cached_size, (c.operations, (c.slots, at_most_one (λ n. n) c.rdma))))),
)

abbrev pub access_args_value : AccessArgs → Value access_args
access_args_value a = a.asked

abbrev pub access_result_value : AccessResult → Value access_result
access_result_value r = (r.supported, r.granted)

abbrev pub close_args_value : CloseArgs → Value close_args
close_args_value a = (a.seqid, stateid_value a.stateid)

abbrev pub close_result_value : CloseResult → Value close_result
close_result_value r = stateid_value r.stateid

abbrev pub commit_args_value : CommitArgs → Value commit_args
commit_args_value a = (a.offset, a.count)

abbrev pub create_args_value : CreateArgs → Value create_args
create_args_value a = (create_type_value a.kind, (a.name.bytes.now, attributes_value a.attributes))

abbrev pub create_result_value : CreateResult → Value create_result
create_result_value r = (change_info_value r.change, bitmap_value r.set)

abbrev pub getattr_args_value : GetAttrArgs → Value getattr_args
getattr_args_value a = bitmap_value a.asked

abbrev pub getattr_result_value : GetAttrResult → Value getattr_result
getattr_result_value r = attributes_value r.attributes

abbrev pub getfh_result_value : GetFhResult → Value getfh_result
getfh_result_value r = handle_value r.handle

abbrev pub link_args_value : LinkArgs → Value link_args
link_args_value a = a.name.bytes.now

abbrev pub link_result_value : LinkResult → Value link_result
link_result_value r = change_info_value r.change

abbrev pub lookup_args_value : LookupArgs → Value lookup_args
lookup_args_value a = a.name.bytes.now

abbrev pub nverify_args_value : NVerifyArgs → Value nverify_args
nverify_args_value a = attributes_value a.attributes

abbrev pub open_args_value : OpenArgs → Value open_args
open_args_value a =
    (a.seqid, (a.access, (a.deny, (a.client, (a.owner.bytes.now, (open_how_value a.how, open_claim_value a.claim))))))

abbrev pub open_result_value : OpenResult → Value open_result
open_result_value r = (stateid_value r.stateid, (change_info_value r.change, (inl tt, (bitmap_value r.set, inl tt))))

abbrev pub putfh_args_value : PutFhArgs → Value putfh_args
putfh_args_value a = handle_value a.handle

abbrev pub read_args_value : ReadArgs → Value read_args
read_args_value a = (stateid_value a.stateid, (a.offset, a.count))

abbrev pub read_result_value : ReadResult → Value read_result
read_result_value r = (r.eof, r.data.bytes.now)

abbrev pub readdir_args_value : ReadDirArgs → Value readdir_args
readdir_args_value a = (a.cookie, (a.verifier, (a.dircount, (a.maxcount, bitmap_value a.asked))))

abbrev pub readdir_result_value : ReadDirResult → Value readdir_result
readdir_result_value r = (zeros_value, (chain_values entry (Some entry_normal) r.entries.bytes.now, r.eof))

abbrev pub readlink_result_value : ReadLinkResult → Value readlink_result
readlink_result_value r = r.text.bytes.now

abbrev pub remove_args_value : RemoveArgs → Value remove_args
remove_args_value a = a.name.bytes.now

abbrev pub remove_result_value : RemoveResult → Value remove_result
remove_result_value r = change_info_value r.change

abbrev pub rename_args_value : RenameArgs → Value rename_args
rename_args_value a = (a.old.bytes.now, a.new.bytes.now)

abbrev pub rename_result_value : RenameResult → Value rename_result
rename_result_value r = (change_info_value r.source, change_info_value r.target)

abbrev pub setattr_args_value : SetAttrArgs → Value setattr_args
setattr_args_value a = (stateid_value a.stateid, attributes_value a.attributes)

abbrev pub setattr_result_value : SetAttrResult → Value setattr_result
setattr_result_value r = bitmap_value r.set

abbrev pub verify_args_value : VerifyArgs → Value verify_args
verify_args_value a = attributes_value a.attributes

abbrev pub write_args_value : WriteArgs → Value write_args
write_args_value a = (stateid_value a.stateid, (a.offset, (stable_how_value a.stable, a.data.bytes.now)))

abbrev pub write_result_value : WriteResult → Value write_result
write_result_value r = (r.count, (inl tt, zeros_value))

abbrev pub exchange_id_args_value : ExchangeIdArgs → Value exchange_id_args
exchange_id_args_value a =
    (a.verifier, (a.owner.bytes.now, (a.flags, (inl tt, at_most_one implementation_value a.implementation))))

abbrev pub exchange_id_result_value : ExchangeIdResult → Value exchange_id_result
exchange_id_result_value r =
    (r.client, (r.sequence, (r.flags, (inl tt, (zeros_value, (r.server.bytes.now, (r.scope.bytes.now, inl tt)))))))

abbrev pub create_session_args_value : CreateSessionArgs → Value create_session_args
create_session_args_value a = (
  a.client,
  (
    a.sequence,
    (
      a.flags,
      (
        channel_value a.fore,
        (
          channel_value a.back,
          (a.program, array_values callback_security None a.security.count a.security.bytes.now),
        ),
      ),
    ),
  ),
)

abbrev pub create_session_result_value : CreateSessionResult → Value create_session_result
create_session_result_value r = (r.session, (r.sequence, (r.flags, (channel_value r.fore, channel_value r.back))))

abbrev pub destroy_session_args_value : DestroySessionArgs → Value destroy_session_args
destroy_session_args_value a = a.session

abbrev pub sequence_args_value : SequenceArgs → Value sequence_args
sequence_args_value a = (a.session, (a.number, (a.slot, (a.highest, a.keep))))

abbrev pub sequence_result_value : SequenceResult → Value sequence_result
sequence_result_value r = (r.session, (r.number, (r.slot, (r.highest, (r.target, inl tt)))))

abbrev pub destroy_clientid_args_value : DestroyClientIdArgs → Value destroy_clientid_args
destroy_clientid_args_value a = a.client

abbrev pub reclaim_complete_args_value : ReclaimCompleteArgs → Value reclaim_complete_args
reclaim_complete_args_value a = a.one_fs

-- the operation of a Rust value
abbrev pub op_view : Op → Operation
op_view (ops.Access a) = Known kinds.Access (access_args_value a)
op_view (ops.Close a) = Known kinds.Close (close_args_value a)
op_view (ops.Commit a) = Known kinds.Commit (commit_args_value a)
op_view (ops.Create a) = Known kinds.Create (create_args_value a)
op_view (ops.GetAttr a) = Known kinds.GetAttr (getattr_args_value a)
op_view ops.GetFh = Known kinds.GetFh tt
op_view (ops.Link a) = Known kinds.Link (link_args_value a)
op_view (ops.Lookup a) = Known kinds.Lookup (lookup_args_value a)
op_view ops.LookupP = Known kinds.LookupP tt
op_view (ops.NVerify a) = Known kinds.NVerify (nverify_args_value a)
op_view (ops.Open a) = Known kinds.Open (open_args_value a)
op_view (ops.PutFh a) = Known kinds.PutFh (putfh_args_value a)
op_view ops.PutRootFh = Known kinds.PutRootFh tt
op_view (ops.Read a) = Known kinds.Read (read_args_value a)
op_view (ops.ReadDir a) = Known kinds.ReadDir (readdir_args_value a)
op_view ops.ReadLink = Known kinds.ReadLink tt
op_view (ops.Remove a) = Known kinds.Remove (remove_args_value a)
op_view (ops.Rename a) = Known kinds.Rename (rename_args_value a)
op_view ops.RestoreFh = Known kinds.RestoreFh tt
op_view ops.SaveFh = Known kinds.SaveFh tt
op_view (ops.SetAttr a) = Known kinds.SetAttr (setattr_args_value a)
op_view (ops.Verify a) = Known kinds.Verify (verify_args_value a)
op_view (ops.Write a) = Known kinds.Write (write_args_value a)
op_view (ops.ExchangeId a) = Known kinds.ExchangeId (exchange_id_args_value a)
op_view (ops.CreateSession a) = Known kinds.CreateSession (create_session_args_value a)
op_view (ops.DestroySession a) = Known kinds.DestroySession (destroy_session_args_value a)
op_view (ops.Sequence a) = Known kinds.Sequence (sequence_args_value a)
op_view (ops.DestroyClientId a) = Known kinds.DestroyClientId (destroy_clientid_args_value a)
op_view (ops.ReclaimComplete a) = Known kinds.ReclaimComplete (reclaim_complete_args_value a)
op_view (ops.Unsupported n) = Unsupported n
op_view ops.Illegal = Illegal
op_view (ops.Bad n) = Bad n

-- an operation that was read, and the bytes after it
abbrev pub after : Op → List ℕ → Operation × List ℕ
after op rest = (op_view op, rest)

-- A result as it is written. A refusal isn't OK in it either.
abbrev pub result_view : OpResult → Outcome
result_view (results.Access r) = Done kinds.Access (access_result_value r)
result_view (results.Close r) = Done kinds.Close (close_result_value r)
result_view (results.Commit r) = Done kinds.Commit zeros_value
result_view (results.Create r) = Done kinds.Create (create_result_value r)
result_view (results.GetAttr r) = Done kinds.GetAttr (getattr_result_value r)
result_view (results.GetFh r) = Done kinds.GetFh (getfh_result_value r)
result_view (results.Link r) = Done kinds.Link (link_result_value r)
result_view results.Lookup = Done kinds.Lookup tt
result_view results.LookupP = Done kinds.LookupP tt
result_view results.NVerify = Done kinds.NVerify tt
result_view (results.Open r) = Done kinds.Open (open_result_value r)
result_view results.PutFh = Done kinds.PutFh tt
result_view results.PutRootFh = Done kinds.PutRootFh tt
result_view (results.Read r) = Done kinds.Read (read_result_value r)
result_view (results.ReadDir r) = Done kinds.ReadDir (readdir_result_value r)
result_view (results.ReadLink r) = Done kinds.ReadLink (readlink_result_value r)
result_view (results.Remove r) = Done kinds.Remove (remove_result_value r)
result_view (results.Rename r) = Done kinds.Rename (rename_result_value r)
result_view results.RestoreFh = Done kinds.RestoreFh tt
result_view results.SaveFh = Done kinds.SaveFh tt
result_view (results.SetAttr r) = Done kinds.SetAttr (setattr_result_value r)
result_view results.Verify = Done kinds.Verify tt
result_view (results.Write r) = Done kinds.Write (write_result_value r)
result_view (results.ExchangeId r) = Done kinds.ExchangeId (exchange_id_result_value r)
result_view (results.CreateSession r) = Done kinds.CreateSession (create_session_result_value r)
result_view results.DestroySession = Done kinds.DestroySession tt
result_view (results.Sequence r) = Done kinds.Sequence (sequence_result_value r)
result_view results.DestroyClientId = Done kinds.DestroyClientId tt
result_view results.ReclaimComplete = Done kinds.ReclaimComplete tt
result_view (results.Refused n status) = refused n (refusal status)

-- A result as it was read: a refusal has exactly the number of its status, which is never that of OK.
abbrev pub read_view : OpResult → Outcome
read_view (results.Refused n status) = refused n (number_of status)
read_view r = result_view r
