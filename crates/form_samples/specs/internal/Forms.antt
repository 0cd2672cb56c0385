-- The XDR types of some arguments and results (RFC 5662).
use Rattle.std.specs.Prelude.{[], ◌∷◌}
use Rattle.xdr_wire.specs.Xdr.{Xdr, Value, void, uint, hyper, signed_hyper, boolean, opaque, array, optional, chain}
use Rattle.xdr_wire.specs.Xdr.{union, arm, no_more, fields}

-- channel_attrs4
abbrev pub channel : Xdr
channel = fields (uint ∷ uint ∷ uint ∷ uint ∷ uint ∷ uint ∷ array 1 uint ∷ [])

-- open_claim4: by name or by filehandle
abbrev pub claim : Xdr
claim = union (arm 0 (opaque 0xffff_ffff) (arm 4 void no_more))

-- stable_how4
abbrev pub stable : Xdr
stable = union (arm 0 void (arm 1 void (arm 2 void no_more)))

-- a number and a time
abbrev pub mark : Xdr
mark = fields (uint ∷ optional signed_hyper ∷ [])

-- the number is ignored
abbrev pub without_number : Value mark → Value mark
without_number v = (0, v.1)

-- entry4, without its attributes
abbrev pub entry : Xdr
entry = fields (hyper ∷ opaque 0xffff_ffff ∷ [])

-- dirlist4
abbrev pub listing : Xdr
listing = fields (chain entry ∷ boolean ∷ [])
