-- The object that a filehandle names (RFC 8881, section 4.2.1).
use Rattle.std.specs.Prelude.{ℕ, List, ◌++◌, ◌==◌, ◌&&◌, if◌then◌else◌, length, take, drop, replicate, Result, Ok, Err}
use Rattle.std.specs.Int.{w64, from_be_bytes, to_be_bytes}
use Rattle.xdr_wire.specs.Reading.{are_zero}
use Rattle.nfs_types.specs.declared.status.Status.{Status}
use Rattle.nfs_types.specs.declared.status.Status.TheVariants.{BadHandle}

-- the filehandle of an object: eight zero bytes and its number
abbrev pub object_handle : ℕ → List ℕ
object_handle number = replicate 8 0 ++ to_be_bytes w64 number

-- the number of the object that a filehandle names
abbrev pub object_of : List ℕ → Result ℕ Status
object_of bytes =
    if (length bytes == 16) && are_zero (take 8 bytes) then Ok (from_be_bytes w64 (drop 8 bytes)) else Err BadHandle
