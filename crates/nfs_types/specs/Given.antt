-- The attributes that GETATTR and READDIR return for an object (RFC 8881, sections 5.6 to 5.8, 6.2, 18.7 and 18.23).
use Rattle.std.specs.Prelude.{ℕ, if◌then◌else◌, List, []}
use Rattle.std.specs.List.{flat_map}
use Rattle.xdr_wire.specs.Xdr.{spelling}
use Rattle.who_book.specs.Content.{Content}
use Rattle.nfs_types.specs.Attributes.{Facts, number_of, value_of, all, all_words}
use Rattle.nfs_types.specs.Common.{common}
use Rattle.nfs_types.specs.Forms.{trimmed}
use Rattle.nfs_types.specs.Sets.{has_number}
use Rattle.nfs_types.specs.declared.attribute.Attribute.{Attribute}

-- the bytes of an attribute
abbrev pub attribute_bytes : Content → Facts → Attribute → List ℕ
attribute_bytes book o a = spelling (value_of book o a).form (value_of book o a).value

-- the bytes of an attribute in the values returned: nothing unless it is requested
abbrev pub part : Content → Facts → List ℕ → Attribute → List ℕ
part book o asked a = if has_number asked (number_of a) then attribute_bytes book o a else []

-- the values that are returned, by rising number
unfoldable pub given_values : Content → Facts → List ℕ → List ℕ
given_values book o asked = flat_map (part book o asked) all

-- the set of the attributes that are returned: those requested that the server has
abbrev pub given_set : List ℕ → List ℕ
given_set asked = trimmed (common asked all_words)
