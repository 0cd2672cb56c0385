-- The XDR forms of the parts of a checkpoint (RFC 4506): the counters of a world, its objects and its names.
use Rattle.std.specs.Prelude.{ℕ, ◌+◌, ◌-◌, ◌*◌, ◌/◌, ◌==◌, Bool, ◌||◌, not, nat_le, List, [], ◌∷◌, ◌++◌, length, map}
use Rattle.std.specs.Prelude.{filter, take, drop, Option, Some, None}
use Rattle.std.specs.List.{flat_map, list_all, range_with_len}
use Rattle.std.specs.Option.{option_map}
use Rattle.std.proofs.Common.{inl, inr}
use Rattle.nfs_types.specs.Forms.{time}
use Rattle.nfs_types.specs.MomentView.{moment_value}
use Rattle.node_tree.specs.World.{World, Object, Name}
use Rattle.tree_parts.specs.Forms.{new_object, name, bytes, entry, object_kind_value, list_value}
use Rattle.xdr_wire.specs.Xdr.{Xdr, Value, hyper, union, arm, no_more, fields}
use Rattle.xdr_wire.specs.Wire.{array_values}
use Rattle.tree_parts.specs.declared.part.WrittenPart.{WrittenPart}
use Rattle.tree_parts.specs.declared.part.WrittenPart.TheVariants as written

-- the next number, tick, stamp and cookie
abbrev pub counters : Xdr
counters = fields (hyper ∷ hyper ∷ hyper ∷ hyper ∷ [])

-- a number, the fields of a new object, the last change with its two times, and the stamp
abbrev pub object : Xdr
object = fields (hyper ∷ new_object ∷ hyper ∷ time ∷ time ∷ hyper ∷ [])

-- a cookie, a directory, a name and a child
abbrev pub entry_name : Xdr
entry_name = fields (hyper ∷ hyper ∷ name ∷ hyper ∷ [])

-- a number, an offset, and the bytes at that offset
abbrev pub rest : Xdr
rest = fields (hyper ∷ hyper ∷ bytes ∷ [])

-- the time of the last access, and the object
abbrev pub accessed : Xdr
accessed = fields (time ∷ object ∷ [])

abbrev pub part : Xdr
part = union (arm 0 counters (arm 1 object (arm 2 entry_name (arm 3 rest (arm 4 accessed no_more)))))

-- ---- values

abbrev pub counters_value : World → Value part
counters_value w = inl (w.next_number, (w.next_tick, (w.next_stamp, w.next_cookie)))

-- an object without the time of its last access
abbrev pub plain_value : ℕ → Object → Value object
plain_value number o = (
  number,
  (
    (object_kind_value o.kind, (o.bytes, (o.owner, (o.group, (list_value o.list, o.high))))),
    (o.change, (moment_value o.time_modify, (moment_value o.time_metadata, o.stamp))),
  ),
)

-- an object with the time of its last access, if it has one
abbrev pub accessed_value : Option (Value time) → Value object → Value part
accessed_value None v = inr (inl v)
accessed_value (Some access) v = inr (inr (inr (inr (inl (access, v)))))

abbrev pub object_value : ℕ → Object → Value part
object_value number o = accessed_value (option_map moment_value o.time_access) (plain_value number o)

abbrev pub name_value : Name → Value part
name_value n = inr (inr (inl (n.cookie, (n.directory, (n.name, n.child)))))

abbrev pub rest_value : (number offset : ℕ) → List ℕ → Value part
rest_value number offset bytes = inr (inr (inr (inl (number, (offset, bytes)))))

-- ---- the bytes of a long file

-- the most bytes of a file that one part has
abbrev pub PIECE : ℕ
PIECE = 1048576

-- the bytes of a file that the part at an offset has
abbrev pub piece : List ℕ → ℕ → List ℕ
piece bytes offset = take PIECE (drop offset bytes)

-- Whether there is a part at an offset. A part of zeros is left out, unless it is the last one, which gives the file
-- its size.
abbrev pub has_part : List ℕ → ℕ → Bool
has_part bytes offset = nat_le (length bytes) (offset + PIECE) || not (list_all (λ b. b == 0) (piece bytes offset))

-- the offsets of the parts after the first one
abbrev pub rest_offsets : List ℕ → List ℕ
rest_offsets bytes = filter (has_part bytes) (map (λ k. k * PIECE) (range_with_len 1 ((length bytes - 1) / PIECE)))

-- ---- all parts

-- the first part of an object
abbrev pub first_value : ℕ → Object → Value part
first_value number o = object_value number (record o { bytes = piece o.bytes 0 })

-- the parts of an object
abbrev pub object_parts : ℕ → Object → List (Value part)
object_parts number o =
    first_value number o
    ∷ map (λ offset. rest_value number offset (piece o.bytes offset)) (rest_offsets o.bytes)

-- the parts of a world, in the order of a checkpoint
abbrev pub parts : World → List (Value part)
parts w = counters_value w ∷ flat_map (λ e. object_parts e.0 e.1) w.objects ++ map name_value w.names

-- the value of a part that was read
abbrev pub written_part : WrittenPart → Value part
written_part (written.Counters numbers) = inl numbers
written_part (written.Object access number new last) =
    accessed_value access (
      number,
      (
        (
          object_kind_value new.0.0,
          (
            new.1.0.bytes.now,
            (
              new.1.1.0,
              (new.1.1.1.0, (array_values entry None new.1.1.1.1.0.count new.1.1.1.1.0.bytes.now, new.1.1.1.1.1)),
            ),
          ),
        ),
        last,
      ),
    )
written_part (written.Name cookie directory name child) = inr (inr (inl (cookie, (directory, (name.bytes.now, child)))))
written_part (written.Rest number offset bytes) = inr (inr (inr (inl (number, (offset, bytes.bytes.now)))))
