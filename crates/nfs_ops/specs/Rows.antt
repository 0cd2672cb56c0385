-- The table of the operations (RFC 8881, section 18): one row each, in the order of their numbers.
use Rattle.std.specs.Prelude.{ℕ, Bool, true, false, ◌==◌, if◌then◌else◌, List, [], ◌∷◌, codes, Option, Some}
use Rattle.std.specs.Prelude.{None}
use Rattle.xdr_wire.specs.Xdr.{Xdr}
use Rattle.nfs_types.specs.Forms.{trimmed, trimmed_set}
use Rattle.nfs_ops.specs.Items.{Spelled, alone, normally, nothing}
use Rattle.nfs_ops.specs.Forms.{access_args, access_result, close_args, close_result}
use Rattle.nfs_ops.specs.Forms.{commit_args, commit_result, create_args, create_normal, create_result}
use Rattle.nfs_ops.specs.Forms.{create_result_normal, getattr_args, getattr_result}
use Rattle.nfs_ops.specs.Forms.{getfh_result, link_args, link_result, lookup_args}
use Rattle.nfs_ops.specs.Forms.{nverify_args, open_args, open_normal, open_result, open_result_normal, open_exclusive}
use Rattle.nfs_ops.specs.Forms.{open_by_other_claim, putfh_args, read_args, read_result}
use Rattle.nfs_ops.specs.Forms.{readdir_args, readdir_normal, readdir_result, readdir_result_normal}
use Rattle.nfs_ops.specs.Forms.{readlink_result, remove_args, remove_result, rename_args}
use Rattle.nfs_ops.specs.Forms.{rename_result, setattr_args, setattr_normal, setattr_result}
use Rattle.nfs_ops.specs.Forms.{verify_args, write_args, write_result, exchange_id_args}
use Rattle.nfs_ops.specs.Forms.{exchange_id_result, exchange_id_protected, create_session_args}
use Rattle.nfs_ops.specs.Forms.{create_session_result, destroy_session_args, sequence_args}
use Rattle.nfs_ops.specs.Forms.{sequence_result, destroy_clientid_args, reclaim_complete_args}
use Rattle.nfs_ops.specs.declared.OpKind.{OpKind}
use Rattle.nfs_ops.specs.declared.op_kind.Placement.{Placement}
use Rattle.nfs_ops.specs.declared.op_kind.Placement.TheVariants.{Anywhere, InSession, First, Alone}
use Rattle.nfs_ops.specs.declared.OpKind.TheVariants.{Access, Close, Commit, Create, GetAttr, GetFh, Link}
use Rattle.nfs_ops.specs.declared.OpKind.TheVariants.{Lookup, LookupP, NVerify, Open, PutFh, PutRootFh, Read}
use Rattle.nfs_ops.specs.declared.OpKind.TheVariants.{ReadDir, ReadLink, Remove, Rename, RestoreFh, SaveFh}
use Rattle.nfs_ops.specs.declared.OpKind.TheVariants.{SetAttr, Verify, Write, ExchangeId, CreateSession}
use Rattle.nfs_ops.specs.declared.OpKind.TheVariants.{DestroySession, Sequence, DestroyClientId}
use Rattle.nfs_ops.specs.declared.OpKind.TheVariants.{ReclaimComplete}

pub record Row : Type 0 where
  pub number : ℕ
  pub name : List ℕ
  -- the place of the operation in a COMPOUND
  pub placement : Placement
  -- the arguments of the operation
  pub takes : Spelled
  -- the arguments that aren't supported, each up to the unsupported word
  pub unsupported : List Xdr
  -- the result, after number and status if the status is OK
  pub gives : Spelled
  -- whether the operation can change the tree
  pub changes : Bool
  -- whether the operation may return DELAY; a replayed CREATE_SESSION never does, which its caller ensures
  pub delays : Bool

-- the row of an operation that may be anywhere in a COMPOUND, changes nothing in the tree and never returns DELAY
abbrev pub simple : ℕ → List ℕ → Spelled → Spelled → Row
simple number name takes gives = record {
  number = number;
  name = name;
  placement = Anywhere;
  takes = takes;
  unsupported = [];
  gives = gives;
  changes = false;
  delays = false;
}

-- the row with this place, these unsupported arguments, a change of the tree, or DELAY
abbrev pub placed : Placement → Row → Row
placed place r = record r { placement = place }

abbrev pub lacking : List Xdr → Row → Row
lacking forms r = record r { unsupported = forms }

abbrev pub changing : Row → Row
changing r = record r { changes = true }

abbrev pub delayed : Row → Row
delayed r = record r { delays = true }

abbrev pub row : OpKind → Row
row Access = simple 3 (codes "ACCESS") (alone access_args) (alone access_result)
row Close = simple 4 (codes "CLOSE") (alone close_args) (alone close_result)
row Commit = simple 5 (codes "COMMIT") (alone commit_args) (alone commit_result)
row Create = delayed (changing (simple 6 (codes "CREATE") (normally create_args create_normal)
    (normally create_result create_result_normal)))
row GetAttr = simple 9 (codes "GETATTR") (normally getattr_args trimmed) (normally getattr_result trimmed_set)
row GetFh = simple 10 (codes "GETFH") nothing (alone getfh_result)
row Link = delayed (changing (simple 11 (codes "LINK") (alone link_args) (alone link_result)))
row Lookup = simple 15 (codes "LOOKUP") (alone lookup_args) nothing
row LookupP = simple 16 (codes "LOOKUPP") nothing nothing
row NVerify = delayed (simple 17 (codes "NVERIFY") (normally nverify_args trimmed_set) nothing)
row Open =
    delayed (changing (lacking (open_exclusive ∷ open_by_other_claim ∷ [])
    (simple 18 (codes "OPEN") (normally open_args open_normal) (normally open_result open_result_normal))))
row PutFh = simple 22 (codes "PUTFH") (alone putfh_args) nothing
row PutRootFh = simple 24 (codes "PUTROOTFH") nothing nothing
row Read = simple 25 (codes "READ") (alone read_args) (alone read_result)
row ReadDir = simple 26 (codes "READDIR") (normally readdir_args readdir_normal)
    (normally readdir_result readdir_result_normal)
row ReadLink = simple 27 (codes "READLINK") nothing (alone readlink_result)
row Remove = changing (simple 28 (codes "REMOVE") (alone remove_args) (alone remove_result))
row Rename = delayed (changing (simple 29 (codes "RENAME") (alone rename_args) (alone rename_result)))
row RestoreFh = simple 31 (codes "RESTOREFH") nothing nothing
row SaveFh = simple 32 (codes "SAVEFH") nothing nothing
row SetAttr = delayed (changing (simple 34 (codes "SETATTR") (normally setattr_args setattr_normal)
    (normally setattr_result trimmed)))
row Verify = delayed (simple 37 (codes "VERIFY") (normally verify_args trimmed_set) nothing)
row Write = delayed (changing (simple 38 (codes "WRITE") (alone write_args) (alone write_result)))
row ExchangeId =
    delayed (placed Alone (lacking (exchange_id_protected ∷ [])
    (simple 42 (codes "EXCHANGE_ID") (alone exchange_id_args) (alone exchange_id_result))))
row CreateSession = delayed (placed Alone (simple 43 (codes "CREATE_SESSION") (alone create_session_args)
    (alone create_session_result)))
row DestroySession = placed Alone (simple 44 (codes "DESTROY_SESSION") (alone destroy_session_args) nothing)
row Sequence = placed First (simple 53 (codes "SEQUENCE") (alone sequence_args) (alone sequence_result))
row DestroyClientId = placed Alone (simple 57 (codes "DESTROY_CLIENTID") (alone destroy_clientid_args) nothing)
row ReclaimComplete = placed InSession (simple 58 (codes "RECLAIM_COMPLETE") (alone reclaim_complete_args) nothing)

abbrev pub all_kinds : List OpKind
all_kinds =
    Access ∷ Close ∷ Commit ∷ Create ∷ GetAttr ∷ GetFh ∷ Link ∷ Lookup ∷ LookupP ∷ NVerify ∷ Open ∷ PutFh ∷ PutRootFh
    ∷ Read ∷ ReadDir
    ∷ ReadLink ∷ Remove ∷ Rename ∷ RestoreFh ∷ SaveFh ∷ SetAttr ∷ Verify ∷ Write ∷ ExchangeId ∷ CreateSession
    ∷ DestroySession ∷ Sequence ∷ DestroyClientId ∷ ReclaimComplete ∷ []

-- the first of these operations that has the number
abbrev pub with_number : List OpKind → ℕ → Option OpKind
with_number [] n = None
with_number (k ∷ others) n = if n == (row k).number then Some k else with_number others n

-- the operation with this number, if this server has one
unfoldable pub kind_at : ℕ → Option OpKind
kind_at n = with_number all_kinds n
