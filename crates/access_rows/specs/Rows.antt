-- The permissions that each operation demands of access control lists (RFC 8881, sections 6.2.1.3.1 and 18): a line for
-- each operation, by its number.
use Rattle.std.specs.Prelude.{ℕ, ◌+◌, ◌%◌, Bool, true, false, ◌==◌, ◌||◌, nat_le, if◌then◌else◌, List, [], ◌∷◌}
use Rattle.std.specs.Prelude.{length, Option, Some, None, bit_or}
use Rattle.std.specs.List.{list_any}
use Rattle.std.specs.Option.{option_map, option_map_or}
use Rattle.acl_list.specs.declared.entry.Kind.{Kind}
use Rattle.acl_list.specs.declared.entry.Kind.TheVariants.{File, Directory, Link as LinkKind}
use Rattle.acl_list.specs.declared.mask.TheConstants.{READ_DATA, LIST_DIRECTORY, WRITE_DATA, ADD_FILE, APPEND_DATA}
use Rattle.acl_list.specs.declared.mask.TheConstants.{ADD_SUBDIRECTORY, EXECUTE, READ_ATTRIBUTES, READ_ACL, WRITE_ACL}
use Rattle.acl_list.specs.declared.mask.TheConstants.{WRITE_ATTRIBUTES, WRITE_OWNER}
use Rattle.nfs_types.specs.Attributes.{numbers_read_by, numbers_set_by, all_words}
use Rattle.nfs_types.specs.Common.{without}
use Rattle.nfs_types.specs.Sets.{has_number}
use Rattle.nfs_ops.specs.Operations.{Operation, Known}
use Rattle.nfs_ops.specs.Parts as parts
use Rattle.nfs_ops.specs.Parts.{Created, How, Claim, created_type, open_access, how_of, claim_of, set_of}
use Rattle.nfs_ops.specs.Parts.{set_attributes, write_offset, written_bytes}
use Rattle.nfs_ops.specs.declared.OpKind.TheVariants as kinds
use Rattle.access_rows.specs.declared.demand.Demand.{Demand}
use Rattle.access_rows.specs.declared.demand.Demand.TheVariants.{Bits, Removal, ServerTime}
use Rattle.access_rows.specs.declared.facts.Object.{Object}
use Rattle.access_rows.specs.declared.facts.Clock.{Clock}
use Rattle.access_rows.specs.declared.facts.Clock.TheVariants.{Server, Client}
use Rattle.access_rows.specs.declared.facts.First.{First}
use Rattle.access_rows.specs.declared.facts.Second.{Second}

-- ---- demands

-- permissions on an object; without an object or a bit nothing is demanded
abbrev pub bits : Option Object → ℕ → Option Demand
bits None mask = None
bits (Some o) mask = if mask == 0 then None else Some (Bits o.number mask)

-- the removal of a name of the target from the parent (section 6.2.1.3.2)
abbrev pub removal : Option Object → Option Object → Option Demand
removal (Some parent) (Some target) = Some (Removal parent.number target.number)
removal (Some parent) None = None
removal None target = None

-- whether the times that are set are the server's alone
abbrev pub is_servers : Option Clock → Bool
is_servers (Some Server) = true
is_servers (Some Client) = false
is_servers None = false

-- whether a time of the client's is set
abbrev pub is_clients : Option Clock → Bool
is_clients (Some Server) = false
is_clients (Some Client) = true
is_clients None = false

-- times of the current object that are the server's alone (section 6.2.1.3.1)
abbrev pub server_time : First → Option Demand
server_time facts =
    if is_servers facts.clock then option_map (λ o. ServerTime o.number) facts.current else None

-- the demands of a phase, in order; a place may be empty
abbrev pub Demands : Type 0
Demands = List (Option Demand)

-- a single demand, at the first of two places
abbrev pub row : Option Demand → Demands
row a = a ∷ None ∷ []

-- a single demand, at the first of three places
abbrev pub one_of_three : Option Demand → Demands
one_of_three a = a ∷ None ∷ None ∷ []

-- ---- how many access control lists (ACLs) are read for them

-- The ACLs of the target and of its parent decide on a removal. One ACL decides on each other demand.
abbrev pub lists_of : Demand → ℕ
lists_of (Bits object mask) = 1
lists_of (Removal parent target) = 2
lists_of (ServerTime object) = 1

abbrev pub lists_in : Demands → ℕ
lists_in [] = 0
lists_in (None ∷ others) = lists_in others
lists_in (Some d ∷ others) = lists_of d + lists_in others

-- the largest numbers of ACLs that decide a first phase, a second phase, and an entry of READDIR
abbrev pub most_first : ℕ
most_first = 2

abbrev pub most_second : ℕ
most_second = 5

abbrev pub most_of_entry : ℕ
most_of_entry = 2

-- ---- the permissions that depend on the arguments

-- one of these numbers is in the set
abbrev pub has_any : List ℕ → List ℕ → Bool
has_any set numbers = list_any (λ n. has_number set n) numbers

-- the attributes read by READ_ATTRIBUTES, and by READ_ACL
abbrev pub governed : List ℕ
governed = numbers_read_by READ_ATTRIBUTES

abbrev pub list_giving : List ℕ
list_giving = numbers_read_by READ_ACL

-- everyone can read all other attributes
abbrev pub reading_mask : List ℕ → ℕ
reading_mask set =
    bit_or (if has_any set governed then READ_ATTRIBUTES else 0) (if has_any set list_giving then READ_ACL else 0)

-- the words of a set; if the permission isn't granted, without the attributes that need it
abbrev pub kept_where : Bool → List ℕ → List ℕ → List ℕ
kept_where true numbers words = words
kept_where false numbers words = without words numbers

-- the attributes that are returned for an object, by whether READ_ATTRIBUTES and READ_ACL are granted, where times can
-- be set
abbrev pub granted_words : (attributes list : Bool) → List ℕ
granted_words attributes list = kept_where list list_giving (kept_where attributes governed all_words)

-- the attributes set by WRITE_ACL, and by WRITE_OWNER
abbrev pub list_setting : List ℕ
list_setting = numbers_set_by WRITE_ACL

abbrev pub owner_setting : List ℕ
owner_setting = numbers_set_by WRITE_OWNER

-- setting a size needs WRITE_DATA, and APPEND_DATA too if the file grows or its size isn't known
abbrev pub sizing_mask : Option ℕ → Option ℕ → ℕ
sizing_mask (Some size) (Some new) = if nat_le new size then WRITE_DATA else bit_or WRITE_DATA APPEND_DATA
sizing_mask (Some size) None = bit_or WRITE_DATA APPEND_DATA
sizing_mask None new = bit_or WRITE_DATA APPEND_DATA

-- size as above, a time of the client's by WRITE_ATTRIBUTES, the other attributes by WRITE_ACL and by WRITE_OWNER
abbrev pub setting_mask : List ℕ → First → ℕ
setting_mask set facts =
    bit_or
    (bit_or
    (bit_or (if has_number set 4 then sizing_mask facts.size facts.new_size else 0)
    (if has_any set list_setting then WRITE_ACL else 0))
    (if has_any set owner_setting then WRITE_OWNER else 0))
    (if is_clients facts.clock then WRITE_ATTRIBUTES else 0)

-- Writing within the file, or nothing, needs WRITE_DATA; writing at its end APPEND_DATA; across the end or past it
-- both.
abbrev pub writing_mask : Option ℕ → ℕ → ℕ → ℕ
writing_mask None offset count = bit_or WRITE_DATA APPEND_DATA
writing_mask (Some size) offset count =
    if count == 0 then WRITE_DATA
    else if offset == size then APPEND_DATA
    else if nat_le (offset + count) size then WRITE_DATA
    else bit_or WRITE_DATA APPEND_DATA

-- adding a name of an object of this type
abbrev pub adding_mask : Kind → ℕ
adding_mask File = ADD_FILE
adding_mask Directory = ADD_SUBDIRECTORY
adding_mask LinkKind = ADD_FILE

-- creating an object of this type; CREATE makes only directories and links
abbrev pub creating_mask : Created → ℕ
creating_mask parts.Directory = bit_or EXECUTE ADD_SUBDIRECTORY
creating_mask (parts.Link text) = bit_or EXECUTE ADD_FILE
creating_mask _ = 0

-- ---- OPEN (section 18.16)

abbrev pub is_creating : How → Bool
is_creating parts.NoCreate = false
is_creating (parts.Unchecked set) = true
is_creating (parts.Guarded set) = true

-- the low byte: 1 to read, 2 to write, 3 for both
abbrev pub is_to_read : ℕ → Bool
is_to_read access = (access % 256 == 1) || (access % 256 == 3)

abbrev pub is_to_write : ℕ → Bool
is_to_write access = (access % 256 == 2) || (access % 256 == 3)

-- an unchecked OPEN with size 0 truncates an existing file
abbrev pub is_truncating : How → Option ℕ → Bool
is_truncating (parts.Unchecked set) new_size = option_map_or (λ size. size == 0) new_size false
is_truncating (parts.Guarded set) new_size = false
is_truncating parts.NoCreate new_size = false

-- reading needs READ_DATA, writing APPEND_DATA, truncation WRITE_DATA
abbrev pub opening_mask : ℕ → How → Option ℕ → ℕ
opening_mask access how new_size =
    bit_or (bit_or (if is_to_read access then READ_DATA else 0) (if is_to_write access then APPEND_DATA else 0))
    (if is_truncating how new_size then WRITE_DATA else 0)

-- an existing file is opened; else the file may be created
abbrev pub opening : Option Object → ℕ → How → Second → Option Demand
opening None access how facts = if is_creating how then bits facts.current ADD_FILE else None
opening (Some file) access how facts = bits (Some file) (opening_mask access how facts.new_size)

-- by name the directory is checked first
abbrev pub open_first : Claim → Option Object → Option Demand
open_first (parts.ByName name) current = bits current EXECUTE
open_first parts.ByHandle current = None

-- by name the child of the current directory is opened, by filehandle the current object itself
abbrev pub open_second : Claim → ℕ → How → Second → Option Demand
open_second (parts.ByName name) access how facts = opening facts.child access how facts
open_second parts.ByHandle access how facts = bits facts.current (opening_mask access how facts.new_size)

-- ---- RENAME (section 18.26)

-- The source and the target directory are checked once if they are the same. Then the child is removed from its
-- directory and added to the other, and an existing child with the new name is removed.
abbrev pub is_one : Option Object → Option Object → Bool
is_one (Some a) (Some b) = a.number == b.number
is_one (Some a) None = false
is_one None b = false

abbrev pub rename_first : First → Demands
rename_first facts =
    bits facts.saved EXECUTE ∷ (if is_one facts.saved facts.current then None else bits facts.current EXECUTE) ∷ []

abbrev pub rename_second : Second → Demands
rename_second facts =
    removal facts.saved facts.child
    ∷ bits facts.current (option_map_or (λ child. adding_mask child.kind) facts.child 0)
    ∷ removal facts.current facts.replaced ∷ []

-- ---- the table

-- The demands of an operation before it looks up a name: EXECUTE on the directories of its names,
-- or all if it has no names.
abbrev pub first_demands : Operation → First → Demands
first_demands (Known kinds.Create v) facts = row (bits facts.current (creating_mask (created_type v)))
first_demands (Known kinds.GetAttr v) facts = row (bits facts.current (reading_mask v))
first_demands (Known kinds.Link v) facts = row (bits facts.current (bit_or EXECUTE ADD_FILE))
first_demands (Known kinds.Lookup v) facts = row (bits facts.current EXECUTE)
first_demands (Known kinds.LookupP v) facts = row (bits facts.current EXECUTE)
first_demands (Known kinds.NVerify v) facts = row (bits facts.current (reading_mask (set_of v)))
first_demands (Known kinds.Open v) facts = row (open_first (claim_of v) facts.current)
first_demands (Known kinds.Read v) facts = row (bits facts.current READ_DATA)
first_demands (Known kinds.ReadDir v) facts = row (bits facts.current LIST_DIRECTORY)
first_demands (Known kinds.ReadLink v) facts = row (bits facts.current READ_DATA)
first_demands (Known kinds.Remove v) facts = row (bits facts.current EXECUTE)
first_demands (Known kinds.Rename v) facts = rename_first facts
first_demands (Known kinds.SetAttr v) facts =
    bits facts.current (setting_mask (set_of (set_attributes v)) facts) ∷ server_time facts ∷ []
first_demands (Known kinds.Verify v) facts = row (bits facts.current (reading_mask (set_of v)))
first_demands (Known kinds.Write v) facts =
    row (bits facts.current (writing_mask facts.size (write_offset v) (length (written_bytes v))))
first_demands _ facts = row None

-- The demands of each operation once its names have been looked up. An operation without a second phase has none.
abbrev pub second_demands : Operation → Second → Demands
second_demands (Known kinds.Open v) facts = one_of_three (open_second (claim_of v) (open_access v) (how_of v) facts)
second_demands (Known kinds.Remove v) facts = one_of_three (removal facts.current facts.child)
second_demands (Known kinds.Rename v) facts = rename_second facts
second_demands _ facts = one_of_three None

-- The demands of READDIR on each entry, as it is listed, for these attributes: READ_ATTRIBUTES, and then READ_ACL.
abbrev pub entry_demands : List ℕ → Option Object → Demands
entry_demands set entry =
    bits entry (if has_any set governed then READ_ATTRIBUTES else 0)
    ∷ bits entry (if has_any set list_giving then READ_ACL else 0) ∷ []
