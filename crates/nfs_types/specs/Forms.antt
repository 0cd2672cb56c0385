-- The XDR types of all operations (RFC 5662).
use Rattle.std.specs.Prelude.{ℕ, List, [], ◌∷◌, ◌==◌, if◌then◌else◌}
use Rattle.xdr_wire.specs.Xdr.{Xdr, Value, uint, signed_hyper, fixed, opaque, array, fields}

-- nfs_fh4
abbrev pub handle : Xdr
handle = opaque 128

-- stateid4
abbrev pub stateid : Xdr
stateid = fields (uint ∷ fixed 12 ∷ [])

-- nfstime4
abbrev pub time : Xdr
time = fields (signed_hyper ∷ uint ∷ [])

-- bitmap4, of at most eight words
abbrev pub bitmap : Xdr
bitmap = array 8 uint

-- fattr4
abbrev pub attributes : Xdr
attributes = fields (bitmap ∷ opaque 0xffff_ffff ∷ [])

-- the words of a bitmap without the zero words at its end, which mean nothing
abbrev pub cons_trimmed : ℕ → List ℕ → List ℕ
cons_trimmed w [] = if w == 0 then [] else w ∷ []
cons_trimmed w (v ∷ ws) = w ∷ v ∷ ws

abbrev pub trimmed : List ℕ → List ℕ
trimmed [] = []
trimmed (w ∷ ws) = cons_trimmed w (trimmed ws)

-- attributes with a bitmap of words
abbrev pub trimmed_set : Value attributes → Value attributes
trimmed_set v = (trimmed v.0, v.1)
