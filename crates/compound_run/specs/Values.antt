-- The value of each attribute of an object, by the sight of it (RFC 8881, sections 5.6 to 5.8 and 6.2). The values that
-- all objects share, and the encodings, are in the table of attributes.
use Rattle.std.specs.Prelude.{ℕ, if◌then◌else◌, List, [], unwrap_or, bit_or}
use Rattle.std.specs.Option.{option_map_or}
use Rattle.xdr_wire.specs.Xdr.{Value}
use Rattle.acl_list.specs.declared.entry.Entry.{Entry}
use Rattle.acl_shape.specs.Mode.{mode_of}
use Rattle.who_book.specs.Content.{Content}
use Rattle.nfs_types.specs.Attributes.{Facts, number_of}
use Rattle.nfs_types.specs.Forms.{attributes}
use Rattle.nfs_types.specs.Given.{given_set, given_values}
use Rattle.nfs_types.specs.Sets.{has_number}
use Rattle.nfs_types.specs.declared.attribute.Attribute.{Attribute}
use Rattle.nfs_types.specs.declared.attribute.Attribute.TheVariants.{Mode, NumLinks}
use Rattle.nfs_types.specs.declared.status.Status.{Status}
use Rattle.node_tree.specs.World.{is_directory_in}
use Rattle.node_tree.specs.Changes.{epoch}
use Rattle.compound_run.specs.Sight.{Sight, Details, kind_at}

-- ---- one by one

-- size: the byte count of a file or of a link's text, and 0 of a directory
abbrev pub size_at : Sight → ℕ → ℕ
size_at s number = if is_directory_in s.kinds number then 0 else s.sizes number

-- numlinks: how many names an object has. It is 1 of each directory, also of the root, which has no name.
abbrev pub links_at : Sight → ℕ → ℕ
links_at s number = if is_directory_in s.kinds number then 1 else s.links number

-- acl, owner and owner_group
abbrev pub list_at : Sight → ℕ → List Entry
list_at s number = option_map_or (λ j. j.list) (s.lists number) []

abbrev pub owner_at : Sight → ℕ → ℕ
owner_at s number = option_map_or (λ j. j.owner) (s.lists number) 0

abbrev pub group_at : Sight → ℕ → ℕ
group_at s number = option_map_or (λ j. j.group) (s.lists number) 0

-- details that aren't seen have the values of a new object
abbrev pub unseen : Details
unseen = record { high = 0; change = 0; time_access = epoch; time_modify = epoch; time_metadata = epoch }

-- change, time_access, time_modify and time_metadata, and the high bits of the mode
abbrev pub details_at : Sight → ℕ → Details
details_at s number = unwrap_or (s.details number) unseen

-- mode: its high bits, and the mode that its access control list (ACL) represents
abbrev pub mode_at : Sight → ℕ → ℕ
mode_at s number = bit_or (details_at s number).high (mode_of (list_at s number))

-- ---- all of them

-- a fact that only this attribute reports, if the attribute is requested, else 0
abbrev pub if_asked : List ℕ → Attribute → ℕ → ℕ
if_asked asked a fact = if has_number asked (number_of a) then fact else 0

-- the facts of an object for these attributes; rdattr_error is this status
abbrev pub facts_at : Sight → ℕ → Status → List ℕ → Facts
facts_at s number error asked = record {
  kind = kind_at s number;
  number = number;
  change = (details_at s number).change;
  size = size_at s number;
  error = error;
  list = list_at s number;
  mode = if_asked asked Mode (mode_at s number);
  numlinks = if_asked asked NumLinks (links_at s number);
  owner = owner_at s number;
  group = group_at s number;
  metadata = (details_at s number).time_metadata;
  modify = (details_at s number).time_modify;
  access = (details_at s number).time_access;
  most_bytes = s.limits.bytes;
  times = s.limits.times;
}

-- the values of the attributes requested and supported, by rising number
abbrev pub values_at : Content → Sight → ℕ → Status → List ℕ → List ℕ
values_at book s number error asked = given_values book (facts_at s number error asked) asked

-- the attributes that are returned if these are requested: the supported ones, and their values
abbrev pub attributes_at : Content → Sight → ℕ → Status → List ℕ → Value attributes
attributes_at book s number error asked = (given_set asked, values_at book s number error asked)
