-- A checkpoint is begun, its parts are written in order, and it is finished.
use Rattle.std.specs.Prelude.{◌+◌, ℕ, min, List, [], ◌∷◌, length, map}
use Rattle.std.specs.List.{AllByRecursion}
use Rattle.std.specs.Option.{option_map_or}
use Rattle.xdr_wire.specs.Xdr.{Value, HasSpelling, spelling}
use Rattle.store_journal.specs.Disk.{Bytes}
use Rattle.node_tree.specs.World.{World, Object, Name, object, bytes_of}
use Rattle.tree_parts.specs.Parts.{part, parts, object_parts, name_value, rest_value, piece, rest_offsets}

-- the encodings of the parts of an object and of a name, and that they are read again
abbrev pub object_bytes : ℕ × Object → List Bytes
object_bytes e = map (spelling part) (object_parts e.0 e.1)

abbrev pub name_bytes : Name → Bytes
name_bytes n = spelling part (name_value n)

abbrev pub HasObjectSpelling : ℕ × Object → Type 0
HasObjectSpelling e = AllByRecursion (HasSpelling part) (object_parts e.0 e.1)

abbrev pub HasNameSpelling : Name → Type 0
HasNameSpelling n = HasSpelling part (name_value n)

-- the parts of the object of a number, and those after the first: none if it doesn't exist
abbrev pub parts_at : World → ℕ → List (Value part)
parts_at w number = option_map_or (object_parts number) (object w number) []

abbrev pub rests_at : World → ℕ → List (Value part)
rests_at w number =
    map (λ offset. rest_value number offset (piece (bytes_of w number) offset)) (rest_offsets (bytes_of w number))

-- the encodings of all parts of the tree are read again
abbrev pub HaveSpelling : World → Type 0
HaveSpelling w = AllByRecursion (HasSpelling part) (parts w)

-- the size in bytes after these parts, in 64 bits
abbrev pub counted : ℕ → List Bytes → ℕ
counted size [] = size
counted size (bytes ∷ parts) = counted (min (size + length bytes) 18446744073709551615) parts
