-- The permissions of a mask, and their names (RFC 8881, section 6.2.1.3.1).
use Rattle.std.specs.Prelude.{ℕ, ◌^◌, ◌==◌, Bool, List, [], ◌∷◌, map, codes, Option, option_map}
use Rattle.std.specs.List.{find, list_any}
use Rattle.std.specs.Option.{option_or}
use Rattle.acl_list.specs.Places.{defined}
use Rattle.acl_list.specs.declared.mask.TheConstants as mask
use Rattle.acl_list.specs.declared.entry.Kind.{Kind}
use Rattle.acl_list.specs.declared.entry.Kind.TheVariants.{File, Directory, Link}

-- the permissions by their bits, the lowest first
abbrev pub rights : List ℕ
rights = map (λ place. 2 ^ place) defined

-- whether a mask is the bit of one permission
abbrev pub is_right : ℕ → Bool
is_right bits = list_any (λ right. right == bits) rights

-- permissions with their names
abbrev pub Names : Type 0
Names = List (ℕ × List ℕ)

-- the names on an object that is no directory
abbrev pub names : Names
names =
    (mask.READ_DATA, codes "read-data")
    ∷ (mask.WRITE_DATA, codes "write-data")
    ∷ (mask.APPEND_DATA, codes "append-data")
    ∷ (mask.READ_NAMED_ATTRS, codes "read-named-attrs")
    ∷ (mask.WRITE_NAMED_ATTRS, codes "write-named-attrs")
    ∷ (mask.EXECUTE, codes "execute")
    ∷ (mask.DELETE_CHILD, codes "delete-child")
    ∷ (mask.READ_ATTRIBUTES, codes "read-attributes")
    ∷ (mask.WRITE_ATTRIBUTES, codes "write-attributes")
    ∷ (mask.WRITE_RETENTION, codes "write-retention")
    ∷ (mask.WRITE_RETENTION_HOLD, codes "write-retention-hold")
    ∷ (mask.DELETE, codes "delete")
    ∷ (mask.READ_ACL, codes "read-acl")
    ∷ (mask.WRITE_ACL, codes "write-acl")
    ∷ (mask.WRITE_OWNER, codes "write-owner")
    ∷ (mask.SYNCHRONIZE, codes "synchronize")
    ∷ []

-- the names that a directory has instead
abbrev pub directory_names : Names
directory_names =
    (mask.LIST_DIRECTORY, codes "list-directory")
    ∷ (mask.ADD_FILE, codes "add-file")
    ∷ (mask.ADD_SUBDIRECTORY, codes "add-subdirectory")
    ∷ []

-- the name of a permission in a table, if the table has it
abbrev pub name_in : Names → ℕ → Option (List ℕ)
name_in table right = option_map (λ row. row.1) (find (λ row. row.0 == right) table)

-- the name of a permission on an object of this type; none if it isn't the bit of one permission
abbrev pub right_name : Kind → ℕ → Option (List ℕ)
right_name File right = name_in names right
right_name Directory right = option_or (name_in directory_names right) (name_in names right)
right_name Link right = name_in names right
