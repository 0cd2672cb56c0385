-- The XDR forms of the entries of a log (RFC 4506).
use Rattle.std.specs.Prelude.{[], ◌∷◌}
use Rattle.xdr_wire.specs.Xdr.{Xdr, uint, hyper, opaque, optional, union, arm, no_more, fields}
use Rattle.nfs_types.specs.Forms.{time}

-- bytes of any length
abbrev pub bytes : Xdr
bytes = opaque 0xffff_ffff

-- the moment of a call, its record, the place of the operation whose allocation failed, the checksum of its results
abbrev pub call : Xdr
call = fields (time ∷ bytes ∷ optional uint ∷ hyper ∷ [])

-- a call, the number of a client, or the text of a book, if it has one
abbrev pub entry : Xdr
entry = union (arm 1 call (arm 2 hyper (arm 3 (optional bytes) no_more)))
