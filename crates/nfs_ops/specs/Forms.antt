-- The XDR types of each operation's arguments and of its result, in the order of the standard (RFC 8881, section 18;
-- RFC 5662). They have the names of their parts and of the arms of their unions. If the status is OK, a result follows
-- the number and the status. The comment at an operation lists its arguments, and after a ';' its result, if it has
-- one.
use Rattle.std.specs.Prelude.{ℕ, Bool, ◌+◌, ◌*◌, List, [], ◌∷◌, length, map, codes}
use Rattle.std.proofs.Common.{inl, inr}
use Rattle.std.specs.List.{sum_by}
use Rattle.xdr_wire.specs.Xdr.{Xdr, Value, padding, void, uint, hyper, boolean, fixed, opaque, array, chain, union}
use Rattle.xdr_wire.specs.Xdr.{arm, no_more, fields}
use Rattle.nfs_types.specs.Forms.{handle, stateid, time, bitmap, attributes, trimmed, trimmed_set}

-- opaque<> and string<>: only the record bounds names, link texts and data
abbrev pub bytes : Xdr
bytes = opaque 0xffff_ffff

-- a word of one value: an enum or a union that has only one number in use
abbrev pub always : ℕ → Xdr
always n = union (arm n void no_more)

-- eight zero bytes: a verifier without meaning (verifier4), and the number 0 (uint64_t)
abbrev pub zeros : Xdr
zeros = fields (always 0 ∷ always 0 ∷ [])

-- change_info4: atomic, which is always true; the change before and after
abbrev pub change_info : Xdr
change_info = fields (always 1 ∷ hyper ∷ hyper ∷ [])

-- attributes with their values (fattr4): their set, and the values one after the other
abbrev pub set_of : Value attributes → List ℕ
set_of v = v.0

abbrev pub values_of : Value attributes → List ℕ
values_of v = v.1

-- the number of bytes that n bytes take with their padding
abbrev pub with_padding : ℕ → ℕ
with_padding n = n + padding n

-- ACCESS (18.1): the access rights requested; those supported, and those granted
abbrev pub access_args : Xdr
access_args = uint

abbrev pub access_result : Xdr
access_result = fields (uint ∷ uint ∷ [])

-- CLOSE (18.2): a number that is ignored, the open's stateid; the invalid stateid
abbrev pub close_args : Xdr
close_args = fields (uint ∷ stateid ∷ [])

abbrev pub close_result : Xdr
close_result = stateid

abbrev pub closed_stateid : Value close_args → Value stateid
closed_stateid v = v.1

-- COMMIT (18.3): offset, count; a verifier
abbrev pub commit_args : Xdr
commit_args = fields (hyper ∷ uint ∷ [])

abbrev pub commit_result : Xdr
commit_result = zeros

abbrev pub committed_offset : Value commit_args → ℕ
committed_offset v = v.0

abbrev pub committed_count : Value commit_args → ℕ
committed_count v = v.1

-- specdata4: the two numbers of a device
abbrev pub device : Xdr
device = fields (uint ∷ uint ∷ [])

-- createtype4: file, directory, block and character device, symbolic link with its text, socket, fifo, attribute
-- directory, named attribute
abbrev pub create_type : Xdr
create_type =
    union
    (arm 1 void
    (arm 2 void
    (arm 3 device (arm 4 device (arm 5 bytes (arm 6 void (arm 7 void (arm 8 void (arm 9 void no_more)))))))))

-- CREATE (18.4): type, name, attributes; the directory's change, the attributes that were set
abbrev pub create_args : Xdr
create_args = fields (create_type ∷ bytes ∷ attributes ∷ [])

abbrev pub create_normal : Value create_args → Value create_args
create_normal v = (v.0, (v.1.0, trimmed_set v.1.1))

abbrev pub create_result : Xdr
create_result = fields (change_info ∷ bitmap ∷ [])

abbrev pub create_result_normal : Value create_result → Value create_result
create_result_normal v = (v.0, trimmed v.1)

-- createtype4
pub data Created : Type 0 where
  File : Created
  Directory : Created
  Block : Value device → Created
  Character : Value device → Created
  Link : List ℕ → Created
  Socket : Created
  Fifo : Created
  AttributeDirectory : Created
  NamedAttribute : Created

abbrev pub created : Value create_type → Created
created (inl file) = File
created (inr (inl directory)) = Directory
created (inr (inr (inl numbers))) = Block numbers
created (inr (inr (inr (inl numbers)))) = Character numbers
created (inr (inr (inr (inr (inl text))))) = Link text
created (inr (inr (inr (inr (inr (inl socket)))))) = Socket
created (inr (inr (inr (inr (inr (inr (inl fifo))))))) = Fifo
created (inr (inr (inr (inr (inr (inr (inr (inl directory)))))))) = AttributeDirectory
created (inr (inr (inr (inr (inr (inr (inr (inr (inl attribute))))))))) = NamedAttribute
created (inr (inr (inr (inr (inr (inr (inr (inr (inr more))))))))) = elim more [ ]

abbrev pub created_type : Value create_args → Created
created_type v = created v.0

abbrev pub created_name : Value create_args → List ℕ
created_name v = v.1.0

abbrev pub created_attributes : Value create_args → Value attributes
created_attributes v = v.1.1

-- GETATTR (18.7): the attributes requested; their values
abbrev pub getattr_args : Xdr
getattr_args = bitmap

abbrev pub getattr_result : Xdr
getattr_result = attributes

-- the size by the number of words of the bitmap, and by the number of bytes of the values
abbrev pub getattr_size : ℕ → ℕ → ℕ
getattr_size words values = 16 + 4 * words + with_padding values

-- GETFH (18.8): nothing; the filehandle
abbrev pub getfh_result : Xdr
getfh_result = handle

-- LINK (18.9): the new name; the directory's change
abbrev pub link_args : Xdr
link_args = bytes

abbrev pub link_result : Xdr
link_result = change_info

-- LOOKUP (18.13): the name
abbrev pub lookup_args : Xdr
lookup_args = bytes

-- LOOKUPP (18.14): nothing; nothing

-- NVERIFY (18.15): the attributes that must differ
abbrev pub nverify_args : Xdr
nverify_args = attributes

-- openflag4: without creation (0), or with it (1), and then createhow4: unchecked (0), guarded (1), with attributes
abbrev pub open_how : Xdr
open_how = union (arm 0 void (arm 1 (union (arm 0 attributes (arm 1 attributes no_more))) no_more))

-- these attributes without zero words at the end of their bitmap
abbrev pub open_how_normal : Value open_how → Value open_how
open_how_normal (inl v) = inl v
open_how_normal (inr (inl (inl v))) = inr (inl (inl (trimmed_set v)))
open_how_normal (inr (inl (inr (inl v)))) = inr (inl (inr (inl (trimmed_set v))))
open_how_normal (inr (inl (inr (inr v)))) = elim v [ ]
open_how_normal (inr (inr v)) = elim v [ ]

-- open_claim4: by name (0), by filehandle (4)
abbrev pub open_claim : Xdr
open_claim = union (arm 0 bytes (arm 4 void no_more))

-- OPEN (18.16): a number that is ignored, access, deny, client, owner, how, claim; stateid, the
-- directory's change, no flags, the attributes that were set, no delegation
abbrev pub open_args : Xdr
open_args = fields (uint ∷ uint ∷ uint ∷ hyper ∷ opaque 1024 ∷ open_how ∷ open_claim ∷ [])

abbrev pub open_normal : Value open_args → Value open_args
open_normal v = (v.0, (v.1.0, (v.1.1.0, (v.1.1.1.0, (v.1.1.1.1.0, (open_how_normal v.1.1.1.1.1.0, v.1.1.1.1.1.1))))))

abbrev pub open_result : Xdr
open_result = fields (stateid ∷ change_info ∷ always 0 ∷ bitmap ∷ always 0 ∷ [])

abbrev pub open_result_normal : Value open_result → Value open_result
open_result_normal v = (v.0, (v.1.0, (v.1.1.0, (trimmed v.1.1.1.0, v.1.1.1.1))))

-- The arguments of an OPEN that aren't supported, up to the unsupported word. They are exclusive creation (2, 3), and a
-- claim of a reclaim or a delegation (1, 2, 3, 5, 6).
abbrev pub exclusive : Xdr
exclusive = union (arm 2 void (arm 3 void no_more))

abbrev pub open_exclusive : Xdr
open_exclusive = fields (uint ∷ uint ∷ uint ∷ hyper ∷ opaque 1024 ∷ always 1 ∷ exclusive ∷ [])

abbrev pub other_claim : Xdr
other_claim = union (arm 1 void (arm 2 void (arm 3 void (arm 5 void (arm 6 void no_more)))))

abbrev pub open_by_other_claim : Xdr
open_by_other_claim = fields (uint ∷ uint ∷ uint ∷ hyper ∷ opaque 1024 ∷ open_how ∷ other_claim ∷ [])

-- openflag4 and createhow4
pub data How : Type 0 where
  NoCreate : How
  Unchecked : Value attributes → How
  Guarded : Value attributes → How

abbrev pub how : Value open_how → How
how (inl plain) = NoCreate
how (inr (inl (inl set))) = Unchecked set
how (inr (inl (inr (inl set)))) = Guarded set
how (inr (inl (inr (inr more)))) = elim more [ ]
how (inr (inr more)) = elim more [ ]

-- open_claim4
pub data Claim : Type 0 where
  ByName : List ℕ → Claim
  ByHandle : Claim

abbrev pub claim : Value open_claim → Claim
claim (inl name) = ByName name
claim (inr (inl current)) = ByHandle
claim (inr (inr more)) = elim more [ ]

abbrev pub open_access : Value open_args → ℕ
open_access v = v.1.0

abbrev pub open_deny : Value open_args → ℕ
open_deny v = v.1.1.0

abbrev pub open_client : Value open_args → ℕ
open_client v = v.1.1.1.0

abbrev pub open_owner : Value open_args → List ℕ
open_owner v = v.1.1.1.1.0

abbrev pub how_of : Value open_args → How
how_of v = how v.1.1.1.1.1.0

abbrev pub claim_of : Value open_args → Claim
claim_of v = claim v.1.1.1.1.1.1

-- PUTFH (18.19): the filehandle
abbrev pub putfh_args : Xdr
putfh_args = handle

-- PUTROOTFH (18.21): nothing; nothing

-- READ (18.22): stateid, offset, count; whether the end was reached, the bytes
abbrev pub read_args : Xdr
read_args = fields (stateid ∷ hyper ∷ uint ∷ [])

abbrev pub read_result : Xdr
read_result = fields (boolean ∷ bytes ∷ [])

-- the size by the number of bytes of the file
abbrev pub read_size : ℕ → ℕ
read_size count = 16 + with_padding count

abbrev pub read_stateid : Value read_args → Value stateid
read_stateid v = v.0

abbrev pub read_offset : Value read_args → ℕ
read_offset v = v.1.0

abbrev pub read_count : Value read_args → ℕ
read_count v = v.1.1

-- whether the end was reached, and the bytes
abbrev pub read_gives : Bool → List ℕ → Value read_result
read_gives eof item = (eof, item)

-- READDIR (18.23): cookie, a verifier and a count that are ignored, the largest number of bytes, the attributes
-- requested; a verifier, the entries, whether the end was reached
abbrev pub readdir_args : Xdr
readdir_args = fields (hyper ∷ fixed 8 ∷ uint ∷ uint ∷ bitmap ∷ [])

abbrev pub readdir_normal : Value readdir_args → Value readdir_args
readdir_normal v = (v.0, (v.1.0, (v.1.1.0, (v.1.1.1.0, trimmed v.1.1.1.1))))

-- entry4: cookie, name, attributes
abbrev pub entry : Xdr
entry = fields (hyper ∷ bytes ∷ attributes ∷ [])

abbrev pub entry_normal : Value entry → Value entry
entry_normal v = (v.0, (v.1.0, trimmed_set v.1.1))

abbrev pub readdir_result : Xdr
readdir_result = fields (zeros ∷ chain entry ∷ boolean ∷ [])

abbrev pub readdir_result_normal : Value readdir_result → Value readdir_result
readdir_result_normal v = (v.0, (map entry_normal v.1.0, v.1.1))

-- the size of an entry after its link, by the bytes of its name, the words of its bitmap, and the bytes of its values
abbrev pub entry_size : ℕ → ℕ → ℕ → ℕ
entry_size name words values = 24 + with_padding name + 4 * words + with_padding values

abbrev pub size_of_entry : Value entry → ℕ
size_of_entry e = entry_size (length e.1.0) (length e.1.1.0) (length e.1.1.1)

-- with these entries
abbrev pub readdir_size : List (Value entry) → ℕ
readdir_size entries = 24 + sum_by size_of_entry entries

abbrev pub listed_after : Value readdir_args → ℕ
listed_after v = v.0

abbrev pub listed_at_most : Value readdir_args → ℕ
listed_at_most v = v.1.1.1.0

abbrev pub listed_attributes : Value readdir_args → List ℕ
listed_attributes v = v.1.1.1.1

-- entry4
abbrev pub entry_cookie : Value entry → ℕ
entry_cookie e = e.0

abbrev pub entry_name : Value entry → List ℕ
entry_name e = e.1.0

abbrev pub entry_attributes : Value entry → Value attributes
entry_attributes e = e.1.1

-- READLINK (18.24): nothing; the link's text
abbrev pub readlink_result : Xdr
readlink_result = bytes

-- the size by the number of bytes of the text
abbrev pub readlink_size : ℕ → ℕ
readlink_size text = 12 + with_padding text

-- REMOVE (18.25): the name; the directory's change
abbrev pub remove_args : Xdr
remove_args = bytes

abbrev pub remove_result : Xdr
remove_result = change_info

-- RENAME (18.26): the old name, the new name; the changes of the source directory and of the target directory
abbrev pub rename_args : Xdr
rename_args = fields (bytes ∷ bytes ∷ [])

abbrev pub rename_result : Xdr
rename_result = fields (change_info ∷ change_info ∷ [])

abbrev pub old_name : Value rename_args → List ℕ
old_name v = v.0

abbrev pub new_name : Value rename_args → List ℕ
new_name v = v.1

-- RESTOREFH (18.27): nothing; nothing

-- SAVEFH (18.28): nothing; nothing

-- SETATTR (18.30): stateid, attributes; the attributes that were set, also if the operation fails
abbrev pub setattr_args : Xdr
setattr_args = fields (stateid ∷ attributes ∷ [])

abbrev pub setattr_normal : Value setattr_args → Value setattr_args
setattr_normal v = (v.0, trimmed_set v.1)

abbrev pub setattr_result : Xdr
setattr_result = bitmap

abbrev pub set_stateid : Value setattr_args → Value stateid
set_stateid v = v.0

abbrev pub set_attributes : Value setattr_args → Value attributes
set_attributes v = v.1

-- VERIFY (18.31): the attributes that must be the same
abbrev pub verify_args : Xdr
verify_args = attributes

-- stable_how4: to memory (0), the data (1), all (2)
abbrev pub stable_how : Xdr
stable_how = union (arm 0 void (arm 1 void (arm 2 void no_more)))

-- WRITE (18.32): stateid, offset, stability, the bytes; their count, the stability reached, a verifier
abbrev pub write_args : Xdr
write_args = fields (stateid ∷ hyper ∷ stable_how ∷ bytes ∷ [])

abbrev pub write_result : Xdr
write_result = fields (uint ∷ always 2 ∷ zeros ∷ [])

-- stable_how4
pub data Reach : Type 0 where
  Unstable : Reach
  DataOnly : Reach
  FileToo : Reach

abbrev pub reach : Value stable_how → Reach
reach (inl memory) = Unstable
reach (inr (inl content)) = DataOnly
reach (inr (inr (inl file))) = FileToo
reach (inr (inr (inr more))) = elim more [ ]

abbrev pub write_stateid : Value write_args → Value stateid
write_stateid v = v.0

abbrev pub write_offset : Value write_args → ℕ
write_offset v = v.1.0

abbrev pub write_reach : Value write_args → Reach
write_reach v = reach v.1.1.0

abbrev pub written_bytes : Value write_args → List ℕ
written_bytes v = v.1.1.1

-- nfs_impl_id4: domain, name, a time with any nanoseconds
abbrev pub implementation : Xdr
implementation = fields (bytes ∷ bytes ∷ time ∷ [])

-- EXCHANGE_ID (18.35): verifier, owner, flags, no protection, the client's implementation; client
-- ID, sequence ID, flags, no protection, the server's number and name, its scope, no implementation
abbrev pub exchange_id_args : Xdr
exchange_id_args = fields (fixed 8 ∷ opaque 1024 ∷ uint ∷ always 0 ∷ array 1 implementation ∷ [])

abbrev pub exchange_id_result : Xdr
exchange_id_result = fields (hyper ∷ uint ∷ uint ∷ always 0 ∷ zeros ∷ opaque 11 ∷ opaque 11 ∷ always 0 ∷ [])

-- The arguments of an EXCHANGE_ID that aren't supported, up to the unsupported word: the protection of state by
-- SP4_MACH_CRED (1) or SP4_SSV (2).
abbrev pub protection : Xdr
protection = union (arm 1 void (arm 2 void no_more))

abbrev pub exchange_id_protected : Xdr
exchange_id_protected = fields (fixed 8 ∷ opaque 1024 ∷ uint ∷ protection ∷ [])

abbrev pub client_verifier : Value exchange_id_args → List ℕ
client_verifier v = v.0

abbrev pub client_owner : Value exchange_id_args → List ℕ
client_owner v = v.1.0

abbrev pub exchange_id_flags : Value exchange_id_args → ℕ
exchange_id_flags v = v.1.1.0

-- the server owner's major ID, and the server scope
abbrev pub server_names : Value exchange_id_result → List ℕ
server_names v = v.1.1.1.1.1.0

abbrev pub server_scope : Value exchange_id_result → List ℕ
server_scope v = v.1.1.1.1.1.1.0

-- this server's name, which is both
abbrev pub SERVER_NAME : List ℕ
SERVER_NAME = codes "nfs41-lists"

-- channel_attrs4: padding, sizes of request, reply and cached reply, operations, slots, RDMA
abbrev pub channel : Xdr
channel = fields (uint ∷ uint ∷ uint ∷ uint ∷ uint ∷ uint ∷ array 1 uint ∷ [])

-- authsys_parms (RFC 5531, appendix A): stamp, machine name, uid, gid, further gids
abbrev pub authsys : Xdr
authsys = fields (uint ∷ opaque 255 ∷ uint ∷ uint ∷ array 16 uint ∷ [])

-- gss_cb_handles4: service, the server's handle and the client's
abbrev pub gss_handles : Xdr
gss_handles = fields (uint ∷ bytes ∷ bytes ∷ [])

-- callback_sec_parms4: none (0), AUTH_SYS (1), RPCSEC_GSS (6)
abbrev pub callback_security : Xdr
callback_security = union (arm 0 void (arm 1 authsys (arm 6 gss_handles no_more)))

-- CREATE_SESSION (18.36): client ID, sequence ID, flags, the two channels, program and credentials
-- of callbacks; session ID, sequence ID, flags, the two channels
abbrev pub create_session_args : Xdr
create_session_args = fields (hyper ∷ uint ∷ uint ∷ channel ∷ channel ∷ uint ∷ array 8 callback_security ∷ [])

abbrev pub create_session_result : Xdr
create_session_result = fields (fixed 16 ∷ uint ∷ uint ∷ channel ∷ channel ∷ [])

abbrev pub session_client : Value create_session_args → ℕ
session_client v = v.0

abbrev pub session_sequence : Value create_session_args → ℕ
session_sequence v = v.1.0

abbrev pub session_flags : Value create_session_args → ℕ
session_flags v = v.1.1.0

abbrev pub fore_channel : Value create_session_args → Value channel
fore_channel v = v.1.1.1.0

abbrev pub back_channel : Value create_session_args → Value channel
back_channel v = v.1.1.1.1.0

-- channel_attrs4
abbrev pub request_size : Value channel → ℕ
request_size c = c.1.0

abbrev pub reply_size : Value channel → ℕ
reply_size c = c.1.1.0

abbrev pub cached_size : Value channel → ℕ
cached_size c = c.1.1.1.0

abbrev pub operations : Value channel → ℕ
operations c = c.1.1.1.1.0

abbrev pub slots : Value channel → ℕ
slots c = c.1.1.1.1.1.0

-- DESTROY_SESSION (18.37): the session
abbrev pub destroy_session_args : Xdr
destroy_session_args = fixed 16

-- SEQUENCE (18.46): session ID, sequence ID, slot, highest slot, whether the reply is to be cached;
-- session ID, sequence ID, slot, highest slot, target highest slot, no flags
abbrev pub sequence_args : Xdr
sequence_args = fields (fixed 16 ∷ uint ∷ uint ∷ uint ∷ boolean ∷ [])

abbrev pub sequence_result : Xdr
sequence_result = fields (fixed 16 ∷ uint ∷ uint ∷ uint ∷ uint ∷ always 0 ∷ [])

abbrev pub sequence_session : Value sequence_args → List ℕ
sequence_session v = v.0

abbrev pub sequence_number : Value sequence_args → ℕ
sequence_number v = v.1.0

abbrev pub sequence_slot : Value sequence_args → ℕ
sequence_slot v = v.1.1.0

abbrev pub highest_slot : Value sequence_args → ℕ
highest_slot v = v.1.1.1.0

-- sa_cachethis
abbrev pub keeps_reply : Value sequence_args → Bool
keeps_reply v = v.1.1.1.1

-- sr_highest_slotid and sr_target_highest_slotid
abbrev pub granted_slot : Value sequence_result → ℕ
granted_slot v = v.1.1.1.0

abbrev pub target_slot : Value sequence_result → ℕ
target_slot v = v.1.1.1.1.0

-- DESTROY_CLIENTID (18.50): the client ID
abbrev pub destroy_clientid_args : Xdr
destroy_clientid_args = hyper

-- RECLAIM_COMPLETE (18.51): whether for one file system
abbrev pub reclaim_complete_args : Xdr
reclaim_complete_args = boolean
