-- The outcomes of operations (RFC 8881, section 15.1).
use Rattle.std.specs.Prelude.{ℕ, ◌==◌, if◌then◌else◌, List, [], ◌∷◌, Option, Some, None, codes}
use Rattle.nfs_types.specs.declared.status.Status.{Status}
use Rattle.nfs_types.specs.declared.status.Status.TheVariants.{Ok, Perm, NoEnt, Access, Exist, NotDir, IsDir, Inval}
use Rattle.nfs_types.specs.declared.status.Status.TheVariants.{FBig, NoSpc, MLink, NameTooLong, NotEmpty, Stale}
use Rattle.nfs_types.specs.declared.status.Status.TheVariants.{BadHandle, BadCookie, NotSupp, TooSmall, ServerFault}
use Rattle.nfs_types.specs.declared.status.Status.TheVariants.{BadType, Delay, Same, ClidInUse, NoFileHandle}
use Rattle.nfs_types.specs.declared.status.Status.TheVariants.{MinorVersMismatch, StaleClientId, OldStateId, BadStateId}
use Rattle.nfs_types.specs.declared.status.Status.TheVariants.{NotSame, Symlink, AttrNotSupp, BadXdr, OpenMode}
use Rattle.nfs_types.specs.declared.status.Status.TheVariants.{BadOwner, BadChar, BadName, OpIllegal, BadSession}
use Rattle.nfs_types.specs.declared.status.Status.TheVariants.{BadSlot, CompleteAlready, SeqMisordered, SequencePos}
use Rattle.nfs_types.specs.declared.status.Status.TheVariants.{ReqTooBig, RepTooBig, RepTooBigToCache, TooManyOps}
use Rattle.nfs_types.specs.declared.status.Status.TheVariants.{OpNotInSession, ClientIdBusy, SeqFalseRetry, BadHighSlot}
use Rattle.nfs_types.specs.declared.status.Status.TheVariants.{NotOnlyOp, WrongType}

-- the number of nfsstat4
abbrev pub number_of : Status → ℕ
number_of Ok = 0
number_of Perm = 1
number_of NoEnt = 2
number_of Access = 13
number_of Exist = 17
number_of NotDir = 20
number_of IsDir = 21
number_of Inval = 22
number_of FBig = 27
number_of NoSpc = 28
number_of MLink = 31
number_of NameTooLong = 63
number_of NotEmpty = 66
number_of Stale = 70
number_of BadHandle = 10001
number_of BadCookie = 10003
number_of NotSupp = 10004
number_of TooSmall = 10005
number_of ServerFault = 10006
number_of BadType = 10007
number_of Delay = 10008
number_of Same = 10009
number_of ClidInUse = 10017
number_of NoFileHandle = 10020
number_of MinorVersMismatch = 10021
number_of StaleClientId = 10022
number_of OldStateId = 10024
number_of BadStateId = 10025
number_of NotSame = 10027
number_of Symlink = 10029
number_of AttrNotSupp = 10032
number_of BadXdr = 10036
number_of OpenMode = 10038
number_of BadOwner = 10039
number_of BadChar = 10040
number_of BadName = 10041
number_of OpIllegal = 10044
number_of BadSession = 10052
number_of BadSlot = 10053
number_of CompleteAlready = 10054
number_of SeqMisordered = 10063
number_of SequencePos = 10064
number_of ReqTooBig = 10065
number_of RepTooBig = 10066
number_of RepTooBigToCache = 10067
number_of TooManyOps = 10070
number_of OpNotInSession = 10071
number_of ClientIdBusy = 10074
number_of SeqFalseRetry = 10076
number_of BadHighSlot = 10077
number_of NotOnlyOp = 10081
number_of WrongType = 10083

-- all of them, by rising number
abbrev pub all_statuses : List Status
all_statuses =
    Ok ∷ Perm ∷ NoEnt ∷ Access ∷ Exist ∷ NotDir ∷ IsDir ∷ Inval ∷ FBig ∷ NoSpc ∷ MLink ∷
    NameTooLong ∷ NotEmpty ∷ Stale ∷ BadHandle ∷ BadCookie ∷ NotSupp ∷ TooSmall ∷ ServerFault ∷
    BadType ∷ Delay ∷ Same ∷ ClidInUse ∷ NoFileHandle ∷ MinorVersMismatch ∷ StaleClientId ∷
    OldStateId ∷ BadStateId ∷ NotSame ∷ Symlink ∷ AttrNotSupp ∷ BadXdr ∷ OpenMode ∷ BadOwner ∷
    BadChar ∷ BadName ∷ OpIllegal ∷ BadSession ∷ BadSlot ∷ CompleteAlready ∷ SeqMisordered ∷
    SequencePos ∷ ReqTooBig ∷ RepTooBig ∷ RepTooBigToCache ∷ TooManyOps ∷ OpNotInSession ∷
    ClientIdBusy ∷ SeqFalseRetry ∷ BadHighSlot ∷ NotOnlyOp ∷ WrongType ∷ []

-- the first of these statuses that has this number
abbrev pub of_that_number : List Status → ℕ → Option Status
of_that_number [] n = None
of_that_number (s ∷ others) n = if n == number_of s then Some s else of_that_number others n

-- the status with this number, if this server has one
unfoldable pub status_at : ℕ → Option Status
status_at n = of_that_number all_statuses n

-- the name, without NFS4ERR_
abbrev pub name_of : Status → List ℕ
name_of Ok = codes "OK"
name_of Perm = codes "PERM"
name_of NoEnt = codes "NOENT"
name_of Access = codes "ACCESS"
name_of Exist = codes "EXIST"
name_of NotDir = codes "NOTDIR"
name_of IsDir = codes "ISDIR"
name_of Inval = codes "INVAL"
name_of FBig = codes "FBIG"
name_of NoSpc = codes "NOSPC"
name_of MLink = codes "MLINK"
name_of NameTooLong = codes "NAMETOOLONG"
name_of NotEmpty = codes "NOTEMPTY"
name_of Stale = codes "STALE"
name_of BadHandle = codes "BADHANDLE"
name_of BadCookie = codes "BAD_COOKIE"
name_of NotSupp = codes "NOTSUPP"
name_of TooSmall = codes "TOOSMALL"
name_of ServerFault = codes "SERVERFAULT"
name_of BadType = codes "BADTYPE"
name_of Delay = codes "DELAY"
name_of Same = codes "SAME"
name_of ClidInUse = codes "CLID_INUSE"
name_of NoFileHandle = codes "NOFILEHANDLE"
name_of MinorVersMismatch = codes "MINOR_VERS_MISMATCH"
name_of StaleClientId = codes "STALE_CLIENTID"
name_of OldStateId = codes "OLD_STATEID"
name_of BadStateId = codes "BAD_STATEID"
name_of NotSame = codes "NOT_SAME"
name_of Symlink = codes "SYMLINK"
name_of AttrNotSupp = codes "ATTRNOTSUPP"
name_of BadXdr = codes "BADXDR"
name_of OpenMode = codes "OPENMODE"
name_of BadOwner = codes "BADOWNER"
name_of BadChar = codes "BADCHAR"
name_of BadName = codes "BADNAME"
name_of OpIllegal = codes "OP_ILLEGAL"
name_of BadSession = codes "BADSESSION"
name_of BadSlot = codes "BADSLOT"
name_of CompleteAlready = codes "COMPLETE_ALREADY"
name_of SeqMisordered = codes "SEQ_MISORDERED"
name_of SequencePos = codes "SEQUENCE_POS"
name_of ReqTooBig = codes "REQ_TOO_BIG"
name_of RepTooBig = codes "REP_TOO_BIG"
name_of RepTooBigToCache = codes "REP_TOO_BIG_TO_CACHE"
name_of TooManyOps = codes "TOO_MANY_OPS"
name_of OpNotInSession = codes "OP_NOT_IN_SESSION"
name_of ClientIdBusy = codes "CLIENTID_BUSY"
name_of SeqFalseRetry = codes "SEQ_FALSE_RETRY"
name_of BadHighSlot = codes "BAD_HIGH_SLOT"
name_of NotOnlyOp = codes "NOT_ONLY_OP"
name_of WrongType = codes "WRONG_TYPE"
