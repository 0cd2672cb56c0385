-- The open that a stateid names (RFC 8881, section 8.2).
use Rattle.std.specs.Prelude.{ℕ, Bool, ◌++◌, ◌==◌, ◌&&◌, ◌||◌, if◌then◌else◌, take, drop, replicate, Option, Some, None}
use Rattle.std.specs.Int.{w64, from_be_bytes, to_be_bytes}
use Rattle.std.specs.List.{list_all}
use Rattle.xdr_wire.specs.Xdr.{Value}
use Rattle.xdr_wire.specs.Reading.{are_zero}
use Rattle.nfs_types.specs.Forms.{stateid}

-- The anonymous stateid is all zeros, the READ bypass stateid all ones (8.2.3).
abbrev pub anonymous : Value stateid
anonymous = (0, replicate 12 0)

abbrev pub read_bypass : Value stateid
read_bypass = (0xffff_ffff, replicate 12 255)

-- the stateid that CLOSE returns: the invalid stateid, which no operation accepts (8.2.3)
abbrev pub closed : Value stateid
closed = (0xffff_ffff, replicate 12 0)

abbrev pub is_special : Value stateid → Bool
is_special s = ((s.0 == 0) && list_all (λ b. b == 0) s.1) || ((s.0 == 0xffff_ffff) && list_all (λ b. b == 255) s.1)

-- the stateid of an open of this server: four zero bytes and the open's number
abbrev pub open_stateid : ℕ → ℕ → Value stateid
open_stateid seqid number = (seqid, replicate 4 0 ++ to_be_bytes w64 number)

-- the number of the open that a stateid names, if the stateid has the form of an open's
abbrev pub open_of : Value stateid → Option ℕ
open_of s = if are_zero (take 4 s.1) then Some (from_be_bytes w64 (drop 4 s.1)) else None
