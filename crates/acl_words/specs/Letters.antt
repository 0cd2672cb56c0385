-- The letters of an access control entry (ACE) as text: those of nfs4_setfacl and nfs4_getfacl (nfs4_acl(5) of
-- nfs4-acl-tools).
use Rattle.std.specs.Prelude.{ℕ, ◌+◌, ◌*◌, ◌==◌, nat_lt, if◌then◌else◌, List, [], ◌∷◌, ◌++◌, codes, Option, Some, None}
use Rattle.std.specs.Prelude.{option_map, option_and_then, bit_and, bit_or}
use Rattle.std.specs.List.{find}
use Rattle.std.specs.Option.{option_or}
use Rattle.hex.specs.Hex.{hex_digit_value}
use Rattle.acl_words.specs.Fields.{split_at}
use Rattle.acl_list.specs.declared.mask.TheConstants as mask
use Rattle.acl_list.specs.declared.flag.TheConstants as flag
use Rattle.acl_list.specs.declared.entry.Kind.{Kind}
use Rattle.acl_list.specs.declared.entry.Kind.TheVariants.{File, Directory, Link}

-- letters with their bits, in the order in which they are written
abbrev pub Letters : Type 0
Letters = List (ℕ × ℕ)

-- the flags (RFC 8881, section 6.2.1.4)
abbrev pub flag_letters : Letters
flag_letters =
    (102, flag.FILE_INHERIT)  -- f
    ∷ (100, flag.DIRECTORY_INHERIT)  -- d
    ∷ (110, flag.NO_PROPAGATE)  -- n
    ∷ (105, flag.INHERIT_ONLY)  -- i
    ∷ (83, flag.SUCCESSFUL)  -- S
    ∷ (70, flag.FAILED)  -- F
    ∷ (103, flag.IDENTIFIER_GROUP)  -- g
    ∷ (104, flag.INHERITED)  -- h
    ∷ []

-- the permissions of the mask (RFC 8881, section 6.2.1.3)
abbrev pub permission_letters : Letters
permission_letters =
    (114, mask.READ_DATA)  -- r
    ∷ (119, mask.WRITE_DATA)  -- w
    ∷ (97, mask.APPEND_DATA)  -- a
    ∷ (68, mask.DELETE_CHILD)  -- D
    ∷ (100, mask.DELETE)  -- d
    ∷ (120, mask.EXECUTE)  -- x
    ∷ (116, mask.READ_ATTRIBUTES)  -- t
    ∷ (84, mask.WRITE_ATTRIBUTES)  -- T
    ∷ (110, mask.READ_NAMED_ATTRS)  -- n
    ∷ (78, mask.WRITE_NAMED_ATTRS)  -- N
    ∷ (99, mask.READ_ACL)  -- c
    ∷ (67, mask.WRITE_ACL)  -- C
    ∷ (111, mask.WRITE_OWNER)  -- o
    ∷ (121, mask.SYNCHRONIZE)  -- y
    ∷ []

-- ---- aliases, which are read and not written (nfs4_setfacl(1))

-- rntcy
abbrev pub generic_read : ℕ
generic_read = mask.READ_DATA + (mask.READ_NAMED_ATTRS + (mask.READ_ATTRIBUTES + (mask.READ_ACL + mask.SYNCHRONIZE)))

-- watTNcCy
abbrev pub generic_write : ℕ
generic_write =
    mask.WRITE_DATA + (mask.APPEND_DATA + (mask.READ_ATTRIBUTES + (mask.WRITE_ATTRIBUTES
    + (mask.WRITE_NAMED_ATTRS + (mask.READ_ACL + (mask.WRITE_ACL + mask.SYNCHRONIZE))))))

-- xtcy
abbrev pub generic_execute : ℕ
generic_execute = mask.EXECUTE + (mask.READ_ATTRIBUTES + (mask.READ_ACL + mask.SYNCHRONIZE))

-- R, W and X
abbrev pub aliases_with : ℕ → Letters
aliases_with write = (82, generic_read) ∷ (87, write) ∷ (88, generic_execute) ∷ []

-- on a directory a W includes D
abbrev pub aliases_for : Kind → Letters
aliases_for File = aliases_with generic_write
aliases_for Directory = aliases_with (generic_write + mask.DELETE_CHILD)
aliases_for Link = aliases_with generic_write

-- ---- reading

-- the bits of a letter
abbrev pub bits_of : Letters → ℕ → Option ℕ
bits_of letters byte = option_map (λ row. row.1) (find (λ row. row.0 == byte) letters)

-- the bits of a letter or of an alias
abbrev pub bits_in : Letters → Letters → ℕ → Option ℕ
bits_in letters aliases byte = option_or (bits_of letters byte) (bits_of aliases byte)

-- the bits read before, with those of the letters that follow
abbrev pub letters_after : Letters → Letters → ℕ → List ℕ → Option ℕ
letters_after letters aliases bits [] = Some bits
letters_after letters aliases bits (byte ∷ more) =
    option_and_then (λ new. letters_after letters aliases (bit_or bits new) more) (bits_in letters aliases byte)

-- a number with one more hexadecimal digit, if it fits in 32 bits
abbrev pub number_with : ℕ → ℕ → Option ℕ
number_with number byte =
    option_and_then (λ digit. if nat_lt number 268435456 then Some (16 * number + digit) else None)
    (hex_digit_value byte)

-- The bits read before, with the number read before and those that follow, each after a + (43). A number isn't 0.
abbrev pub numbers_after : ℕ → ℕ → List ℕ → Option ℕ
numbers_after bits number [] = if number == 0 then None else Some (bit_or bits number)
numbers_after bits number (byte ∷ more) =
    if byte == 43 then (if number == 0 then None else numbers_after (bit_or bits number) 0 more)
    else option_and_then (λ next. numbers_after bits next more) (number_with number byte)

-- the flags of a text
abbrev pub flags_in : List ℕ → Option ℕ
flags_in text = letters_after flag_letters [] 0 text

-- the bits of letters and aliases
unfoldable pub rights_in : Kind → List ℕ → Option ℕ
rights_in object text = letters_after permission_letters (aliases_for object) 0 text

-- letters, and numbers after them
abbrev pub both_in : Kind → List ℕ → Option (List ℕ × List ℕ) → Option ℕ
both_in object text None = rights_in object text
both_in object text (Some parts) = option_and_then (λ bits. numbers_after bits 0 parts.1) (rights_in object parts.0)

-- the mask of a text, for an object of this type
abbrev pub permissions_in : Kind → List ℕ → Option ℕ
permissions_in object text = both_in object text (split_at 43 text)

-- ---- writing

-- the letters of the bits that are set
abbrev pub letters_text : Letters → ℕ → List ℕ
letters_text [] bits = []
letters_text (row ∷ more) bits =
    if bit_and bits row.1 == 0 then letters_text more bits else row.0 ∷ letters_text more bits

-- a text, if the bit is set
abbrev pub text_if : ℕ → ℕ → List ℕ → List ℕ
text_if bits bit text = if bit_and bits bit == 0 then [] else text

-- the bits of the mask that have no letter
abbrev pub retention_text : ℕ → List ℕ
retention_text bits =
    text_if bits mask.WRITE_RETENTION (codes "+200") ++ text_if bits mask.WRITE_RETENTION_HOLD (codes "+400")

abbrev pub permissions_text : ℕ → List ℕ
permissions_text bits = letters_text permission_letters bits ++ retention_text bits
