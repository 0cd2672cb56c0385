-- The XDR types of some arguments and results (RFC 5662).
use Rattle.std.specs.Prelude.{ℕ, List, [], ◌∷◌, ◌==◌, if◌then◌else◌}
use Rattle.xdr_wire.specs.Xdr.{Xdr, uint, array}

-- bitmap4
abbrev pub bitmap : Xdr
bitmap = array 8 uint

-- the words without zero words at the end
abbrev pub cons_trimmed : ℕ → List ℕ → List ℕ
cons_trimmed w [] = if w == 0 then [] else w ∷ []
cons_trimmed w (v ∷ ws) = w ∷ v ∷ ws

abbrev pub trimmed : List ℕ → List ℕ
trimmed [] = []
trimmed (w ∷ ws) = cons_trimmed w (trimmed ws)
