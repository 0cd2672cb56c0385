-- The attributes (RFC 8881, sections 5.6 to 5.8 and 6.2; RFC 5662): their numbers, the permissions to read and set
-- them, and the type and value of each.
use Rattle.std.specs.Prelude.{ℕ, ◌+◌, ◌*◌, ◌/◌, Bool, true, false, not, ◌==◌, ◌||◌, List, [], ◌∷◌, filter, map}
use Rattle.std.proofs.Common.{pos}
use Rattle.std.specs.List.{list_all, range_with_len}
use Rattle.xdr_wire.specs.Xdr.{Xdr, Value, uint, hyper, boolean, opaque, fields, array}
use Rattle.acl_list.specs.Kinds.{kind_number}
use Rattle.acl_list.specs.declared.entry.Entry.{Entry}
use Rattle.acl_list.specs.declared.entry.Kind.{Kind}
use Rattle.acl_list.specs.declared.entry.Kind.TheVariants as kind
use Rattle.acl_list.specs.declared.mask.TheConstants.{READ_ATTRIBUTES, WRITE_ATTRIBUTES}
use Rattle.acl_list.specs.declared.mask.TheConstants.{READ_ACL, WRITE_DATA, WRITE_ACL, WRITE_OWNER}
use Rattle.acl_shape.specs.Parts.{part_of}
use Rattle.acl_shape.specs.declared.part.Part.TheVariants as parts
use Rattle.who_book.specs.Content.{Content}
use Rattle.who_book.specs.Spelling.{principal_text, ace_principal_text}
use Rattle.who_book.specs.declared.kind.NameKind.TheVariants as name
use Rattle.nfs_types.specs.Forms.{bitmap, handle, time}
use Rattle.nfs_types.specs.Handles.{object_handle}
use Rattle.nfs_types.specs.MomentView.{moment_value}
use Rattle.nfs_types.specs.Name.{MAX_NAME}
use Rattle.nfs_types.specs.Sets.{has_number}
use Rattle.nfs_types.specs.Status as status
use Rattle.nfs_types.specs.declared.moment.Moment.{Moment}
use Rattle.nfs_types.specs.declared.status.Status.{Status}
use Rattle.nfs_types.specs.declared.attribute.Attribute.{Attribute}
use Rattle.nfs_types.specs.declared.attribute.Attribute.TheVariants.{SupportedAttrs, ObjectType, FhExpireType, Change}
use Rattle.nfs_types.specs.declared.attribute.Attribute.TheVariants.{Size, LinkSupport, SymlinkSupport, NamedAttr, Fsid}
use Rattle.nfs_types.specs.declared.attribute.Attribute.TheVariants.{UniqueHandles, LeaseTime, RdattrError, Acl}
use Rattle.nfs_types.specs.declared.attribute.Attribute.TheVariants.{AclSupport, FileHandle, FileId, MaxFileSize}
use Rattle.nfs_types.specs.declared.attribute.Attribute.TheVariants.{MaxName, MaxRead, MaxWrite, Mode, NumLinks, Owner}
use Rattle.nfs_types.specs.declared.attribute.Attribute.TheVariants.{OwnerGroup, TimeMetadata, TimeModify}
use Rattle.nfs_types.specs.declared.attribute.Attribute.TheVariants.{MountedOnFileId, Dacl, Sacl, SuppattrExclcreat}
use Rattle.nfs_types.specs.declared.attribute.Attribute.TheVariants.{CanSetTime, SpaceUsed, TimeAccess, TimeAccessSet}
use Rattle.nfs_types.specs.declared.attribute.Attribute.TheVariants.{TimeDelta, TimeModifySet}

-- utf8str_mixed
abbrev pub text : Xdr
text = opaque 0xffff_ffff

-- fsid4
abbrev pub fsid : Xdr
fsid = fields (hyper ∷ hyper ∷ [])

-- nfsace4: type, flags, mask and who
abbrev pub ace : Xdr
ace = fields (uint ∷ uint ∷ uint ∷ text ∷ [])

-- fattr4_acl
abbrev pub acl : Xdr
acl = array 0xffff_ffff ace

-- nfsacl41: the flags of the access control list (ACL), and its access control entries (ACEs)
abbrev pub acl41 : Xdr
acl41 = fields (uint ∷ acl ∷ [])

-- An attribute's number, and the permissions that a caller must be granted to read it and to set it. If the first is 0,
-- everyone can read it. If the second is 0, it can't be set.
pub record Row : Type 0 where
  pub number : ℕ
  pub read_by : ℕ
  pub set_by : ℕ

abbrev pub read_by : ℕ → ℕ → Row
read_by bit number = record { number = number; read_by = bit; set_by = 0 }

abbrev pub read_by_all : ℕ → Row
read_by_all number = read_by 0 number

abbrev pub set_by : ℕ → Row → Row
set_by bit r = record r { set_by = bit }

-- The rows. Setting a size needs APPEND_DATA too if the file grows. A time that is set to the server's own needs
-- WRITE_ATTRIBUTES or WRITE_DATA.
abbrev pub row : Attribute → Row
row SupportedAttrs = read_by_all 0
row ObjectType = read_by_all 1
row FhExpireType = read_by_all 2
row Change = read_by READ_ATTRIBUTES 3
row Size = set_by WRITE_DATA (read_by READ_ATTRIBUTES 4)
row LinkSupport = read_by_all 5
row SymlinkSupport = read_by_all 6
row NamedAttr = read_by_all 7
row Fsid = read_by_all 8
row UniqueHandles = read_by_all 9
row LeaseTime = read_by_all 10
row RdattrError = read_by_all 11
row Acl = set_by WRITE_ACL (read_by READ_ACL 12)
row AclSupport = read_by_all 13
row CanSetTime = read_by_all 15
row FileHandle = read_by_all 19
row FileId = read_by_all 20
row MaxFileSize = read_by_all 27
row MaxName = read_by_all 29
row MaxRead = read_by_all 30
row MaxWrite = read_by_all 31
row Mode = set_by WRITE_ACL (read_by READ_ATTRIBUTES 33)
row NumLinks = read_by READ_ATTRIBUTES 35
row Owner = set_by WRITE_OWNER (read_by READ_ATTRIBUTES 36)
row OwnerGroup = set_by WRITE_OWNER (read_by READ_ATTRIBUTES 37)
row SpaceUsed = read_by READ_ATTRIBUTES 45
row TimeAccess = read_by READ_ATTRIBUTES 47
row TimeAccessSet = set_by WRITE_ATTRIBUTES (read_by_all 48)
row TimeDelta = read_by_all 51
row TimeMetadata = read_by READ_ATTRIBUTES 52
row TimeModify = read_by READ_ATTRIBUTES 53
row TimeModifySet = set_by WRITE_ATTRIBUTES (read_by_all 54)
row MountedOnFileId = read_by_all 55
row Dacl = set_by WRITE_ACL (read_by READ_ACL 58)
row Sacl = set_by WRITE_ACL (read_by READ_ACL 59)
row SuppattrExclcreat = read_by_all 75

abbrev pub number_of : Attribute → ℕ
number_of a = (row a).number

-- all attributes, by rising number
abbrev pub all : List Attribute
all =
    SupportedAttrs ∷ ObjectType ∷ FhExpireType ∷ Change ∷ Size ∷ LinkSupport ∷ SymlinkSupport ∷ NamedAttr ∷ Fsid
    ∷ UniqueHandles
    ∷ LeaseTime ∷ RdattrError ∷ Acl ∷ AclSupport ∷ CanSetTime ∷ FileHandle ∷ FileId ∷ MaxFileSize ∷ MaxName ∷ MaxRead
    ∷ MaxWrite ∷ Mode ∷ NumLinks ∷ Owner ∷ OwnerGroup ∷ SpaceUsed ∷ TimeAccess ∷ TimeAccessSet ∷ TimeDelta
    ∷ TimeMetadata ∷ TimeModify ∷ TimeModifySet ∷ MountedOnFileId ∷ Dacl ∷ Sacl ∷ SuppattrExclcreat ∷ []

-- the numbers of the attributes that this permission lets a caller read, and of those that it lets a caller set
abbrev pub numbers_read_by : ℕ → List ℕ
numbers_read_by bit = map number_of (filter (λ a. (row a).read_by == bit) all)

abbrev pub numbers_set_by : ℕ → List ℕ
numbers_set_by bit = map number_of (filter (λ a. (row a).set_by == bit) all)

-- the words of the set of all attributes, of the set of those that are supported, with or without those of times and
-- of space, and of the set of those that can be set
abbrev pub all_words : List ℕ
all_words = 0xe818_bfff ∷ 0x0cf9_a03a ∷ 0x0000_0800 ∷ []

abbrev pub supported_words : (times : Bool) → List ℕ
supported_words false = 0xe818_3fff ∷ 0x0cb0_003a ∷ 0x0000_0800 ∷ []
supported_words true = all_words

abbrev pub settable_words : List ℕ
settable_words = 0x0000_1010 ∷ 0x0c41_0032 ∷ []

-- the attributes of times and of space, which only a profile with times supports
abbrev pub is_of_times : Attribute → Bool
is_of_times CanSetTime = true
is_of_times SpaceUsed = true
is_of_times TimeAccess = true
is_of_times TimeAccessSet = true
is_of_times TimeDelta = true
is_of_times TimeModifySet = true
is_of_times _ = false

-- a set has an attribute that can only be set (RFC 8881, section 5.5)
abbrev pub has_set_only : List ℕ → Bool
has_set_only set = has_number set 48 || has_number set 54

-- the numbers that a bitmap can have
unfoldable pub numbers : List ℕ
numbers = range_with_len 0 256

-- whether each number of a set is in the other set
abbrev pub stays_within : List ℕ → List ℕ → ℕ → Bool
stays_within set other n = not (has_number set n) || has_number other n

abbrev pub is_within : List ℕ → List ℕ → Bool
is_within set other = list_all (stays_within set other) numbers

-- ---- the values

-- the facts about an object that its attributes are made of; `error` is the value of rdattr_error
pub record Facts : Type 0 where
  pub kind : Kind
  pub number : ℕ
  pub change : ℕ
  pub size : ℕ
  pub error : Status
  pub list : List Entry
  pub mode : ℕ
  pub numlinks : ℕ
  pub owner : ℕ
  pub group : ℕ
  pub metadata : Moment
  pub modify : Moment
  pub access : Moment
  -- the most bytes of a file
  pub most_bytes : ℕ
  -- whether times can be set
  pub times : Bool

-- nfs_ftype4
abbrev pub type_number : Kind → ℕ
type_number kind.File = 1
type_number kind.Directory = 2
type_number kind.Link = 5

-- the bytes that an object takes: whole blocks of 4,096 bytes, and one block of an object that isn't a file
abbrev pub space_of : Kind → (size : ℕ) → ℕ
space_of kind.File size = (size + 4095) / 4096 * 4096
space_of kind.Directory size = 4096
space_of kind.Link size = 4096

-- an ACE as it is sent
abbrev pub ace_of : Content → Entry → Value ace
ace_of book e = (kind_number e.kind, (e.flags, (e.mask, ace_principal_text book e.who)))

-- a value, and its type
pub record Typed : Type 0 where
  pub form : Xdr
  pub value : Value form

abbrev pub typed : (t : Xdr) → Value t → Typed
typed t value = record { form = t; value = value }

-- The type and the value of each attribute. One that can only be set has no value, and is never returned.
abbrev pub value_of : Content → Facts → Attribute → Typed
value_of book o SupportedAttrs = typed bitmap (supported_words o.times)
value_of book o ObjectType = typed uint (type_number o.kind)
value_of book o FhExpireType = typed uint 0
value_of book o Change = typed hyper o.change
value_of book o Size = typed hyper o.size
value_of book o LinkSupport = typed boolean true
value_of book o SymlinkSupport = typed boolean true
value_of book o NamedAttr = typed boolean false
value_of book o Fsid = typed fsid (1, 0)
value_of book o UniqueHandles = typed boolean true
value_of book o LeaseTime = typed uint 90
value_of book o RdattrError = typed uint (status.number_of o.error)
value_of book o Acl = typed acl (map (ace_of book) o.list)
value_of book o AclSupport = typed uint 15
value_of book o CanSetTime = typed boolean true
value_of book o FileHandle = typed handle (object_handle o.number)
value_of book o FileId = typed hyper o.number
value_of book o MaxFileSize = typed hyper o.most_bytes
value_of book o MaxName = typed uint MAX_NAME
value_of book o MaxRead = typed hyper 32768
value_of book o MaxWrite = typed hyper 61440
value_of book o Mode = typed uint o.mode
value_of book o NumLinks = typed uint o.numlinks
value_of book o Owner = typed text (principal_text name.User book o.owner)
value_of book o OwnerGroup = typed text (principal_text name.Group book o.group)
value_of book o SpaceUsed = typed hyper (space_of o.kind o.size)
value_of book o TimeAccess = typed time (moment_value o.access)
value_of book o TimeAccessSet = typed (fields []) tt
value_of book o TimeDelta = typed time (pos 0, 1)
value_of book o TimeMetadata = typed time (moment_value o.metadata)
value_of book o TimeModify = typed time (moment_value o.modify)
value_of book o TimeModifySet = typed (fields []) tt
value_of book o MountedOnFileId = typed hyper o.number
value_of book o Dacl = typed acl41 (0, map (ace_of book) (part_of parts.Dacl o.list))
value_of book o Sacl = typed acl41 (0, map (ace_of book) (part_of parts.Sacl o.list))
value_of book o SuppattrExclcreat = typed bitmap []
