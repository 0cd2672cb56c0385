-- The bits of the mask and of the flags of an access control entry (ACE) under the standard's names, by their places.
use Rattle.std.specs.Prelude.{◌≡◌, ℕ, ◌^◌, List, [], ◌∷◌, sum_by}
use Rattle.acl_list.specs.declared.mask.TheConstants as mask
use Rattle.acl_list.specs.declared.flag.TheConstants as flag

-- ---- acemask4 (RFC 8881, section 6.2.1.3)

abbrev pub read_data : ℕ
read_data = 0

-- on a directory, the bit of READ_DATA
abbrev pub list_directory : ℕ
list_directory = 0

abbrev pub write_data : ℕ
write_data = 1

-- on a directory, the bit of WRITE_DATA
abbrev pub add_file : ℕ
add_file = 1

abbrev pub append_data : ℕ
append_data = 2

-- on a directory, the bit of APPEND_DATA
abbrev pub add_subdirectory : ℕ
add_subdirectory = 2

abbrev pub read_named_attrs : ℕ
read_named_attrs = 3

abbrev pub write_named_attrs : ℕ
write_named_attrs = 4

abbrev pub execute : ℕ
execute = 5

abbrev pub delete_child : ℕ
delete_child = 6

abbrev pub read_attributes : ℕ
read_attributes = 7

abbrev pub write_attributes : ℕ
write_attributes = 8

abbrev pub write_retention : ℕ
write_retention = 9

abbrev pub write_retention_hold : ℕ
write_retention_hold = 10

abbrev pub delete : ℕ
delete = 16

abbrev pub read_acl : ℕ
read_acl = 17

abbrev pub write_acl : ℕ
write_acl = 18

abbrev pub write_owner : ℕ
write_owner = 19

abbrev pub synchronize : ℕ
synchronize = 20

-- the bits that have a meaning
abbrev pub defined : List ℕ
defined =
    read_data ∷ write_data ∷ append_data ∷ read_named_attrs ∷ write_named_attrs ∷ execute ∷ delete_child
    ∷ read_attributes ∷ write_attributes
    ∷ write_retention ∷ write_retention_hold ∷ delete ∷ read_acl ∷ write_acl ∷ write_owner ∷ synchronize ∷ []

-- the constants of the code are the bits at these places
pub record MaskBits : Type 0 where
  pub read_data_is : mask.READ_DATA ≡ 2 ^ read_data
  pub list_directory_is : mask.LIST_DIRECTORY ≡ 2 ^ list_directory
  pub write_data_is : mask.WRITE_DATA ≡ 2 ^ write_data
  pub add_file_is : mask.ADD_FILE ≡ 2 ^ add_file
  pub append_data_is : mask.APPEND_DATA ≡ 2 ^ append_data
  pub add_subdirectory_is : mask.ADD_SUBDIRECTORY ≡ 2 ^ add_subdirectory
  pub read_named_attrs_is : mask.READ_NAMED_ATTRS ≡ 2 ^ read_named_attrs
  pub write_named_attrs_is : mask.WRITE_NAMED_ATTRS ≡ 2 ^ write_named_attrs
  pub execute_is : mask.EXECUTE ≡ 2 ^ execute
  pub delete_child_is : mask.DELETE_CHILD ≡ 2 ^ delete_child
  pub read_attributes_is : mask.READ_ATTRIBUTES ≡ 2 ^ read_attributes
  pub write_attributes_is : mask.WRITE_ATTRIBUTES ≡ 2 ^ write_attributes
  pub write_retention_is : mask.WRITE_RETENTION ≡ 2 ^ write_retention
  pub write_retention_hold_is : mask.WRITE_RETENTION_HOLD ≡ 2 ^ write_retention_hold
  pub delete_is : mask.DELETE ≡ 2 ^ delete
  pub read_acl_is : mask.READ_ACL ≡ 2 ^ read_acl
  pub write_acl_is : mask.WRITE_ACL ≡ 2 ^ write_acl
  pub write_owner_is : mask.WRITE_OWNER ≡ 2 ^ write_owner
  pub synchronize_is : mask.SYNCHRONIZE ≡ 2 ^ synchronize
  pub defined_is : mask.DEFINED ≡ sum_by (λ place. 2 ^ place) defined

-- ---- aceflag4 (RFC 8881, section 6.2.1.4)

abbrev pub file_inherit : ℕ
file_inherit = 0

abbrev pub directory_inherit : ℕ
directory_inherit = 1

-- NO_PROPAGATE_INHERIT
abbrev pub no_propagate : ℕ
no_propagate = 2

abbrev pub inherit_only : ℕ
inherit_only = 3

-- SUCCESSFUL_ACCESS
abbrev pub successful : ℕ
successful = 4

-- FAILED_ACCESS
abbrev pub failed : ℕ
failed = 5

abbrev pub identifier_group : ℕ
identifier_group = 6

abbrev pub inherited : ℕ
inherited = 7

-- the flags that have a meaning
abbrev pub defined_flags : List ℕ
defined_flags =
    file_inherit ∷ directory_inherit ∷ no_propagate ∷ inherit_only ∷ successful ∷ failed ∷ identifier_group ∷ inherited
    ∷ []

-- the constants of the code are the bits at these places
pub record FlagBits : Type 0 where
  pub file_inherit_is : flag.FILE_INHERIT ≡ 2 ^ file_inherit
  pub directory_inherit_is : flag.DIRECTORY_INHERIT ≡ 2 ^ directory_inherit
  pub no_propagate_is : flag.NO_PROPAGATE ≡ 2 ^ no_propagate
  pub inherit_only_is : flag.INHERIT_ONLY ≡ 2 ^ inherit_only
  pub successful_is : flag.SUCCESSFUL ≡ 2 ^ successful
  pub failed_is : flag.FAILED ≡ 2 ^ failed
  pub identifier_group_is : flag.IDENTIFIER_GROUP ≡ 2 ^ identifier_group
  pub inherited_is : flag.INHERITED ≡ 2 ^ inherited
  pub defined_is : flag.DEFINED ≡ sum_by (λ place. 2 ^ place) defined_flags
