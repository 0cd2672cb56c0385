-- The XDR value that a Rust value is encoded as.
use Rattle.std.specs.Prelude.{◌≡◌, ◌∷◌, [], List, ℕ, Ok, Err, Option, Some, None, option_map, map}
use Rattle.xdr_wire.specs.Xdr.{Xdr, Value, chain}
use Rattle.xdr_wire.specs.Reading.{◌>>=◌, Read, read_at, items_at}

-- Values that mean the same have one normal form, as when a field is ignored. For most types each value is its own
-- normal form, and this is None.
abbrev pub Normal : Type 0 → Type 0
Normal V = Option (V → V)

abbrev pub normalized : {V : Type 0} → Normal V → V → V
normalized None v = v
normalized (Some f) v = f v

-- the result of reading, with the value in its normal form
abbrev pub in_normal_form : {V : Type 0} → Normal V → Read V → Read V
in_normal_form None read = read
in_normal_form (Some f) read = read >>= λ x. Ok (f x.0, x.1)

-- the normal forms of pairs, of options and of lists
abbrev pub both : {V W : Type 0} → Normal V → Normal W → Normal (V × W)
both None None = None
both None (Some g) = Some (λ v. (v.0, g v.1))
both (Some f) None = Some (λ v. (f v.0, v.1))
both (Some f) (Some g) = Some (λ v. (f v.0, g v.1))

abbrev pub within : {V : Type 0} → Normal V → Normal (Option V)
within None = None
within (Some f) = Some (λ v. option_map f v)

abbrev pub each : {V : Type 0} → Normal V → Normal (List V)
each None = None
each (Some f) = Some (λ vs. map f vs)

-- the value of an array of at most one item
abbrev pub at_most_one : {X V : Type 0} → (X → V) → Option X → List V
at_most_one view None = []
at_most_one view (Some x) = view x ∷ []

-- the values that reading gives, if it succeeds
abbrev pub values_of : {V : Type 0} → Read (List V) → List V
values_of (Ok x) = x.0
values_of (Err e) = []

-- the values of the first n items in the bytes, in normal form
abbrev pub array_values : (t : Xdr) → Normal (Value t) → ℕ → List ℕ → List (Value t)
array_values t normal n bytes = normalized (each normal) (values_of (items_at (read_at t) n bytes))

-- the values of the chain that the bytes begin with, in normal form
abbrev pub chain_values : (t : Xdr) → Normal (Value t) → List ℕ → List (Value t)
chain_values t normal bytes = normalized (each normal) (values_of (read_at (chain t) bytes))

-- The first value of a list is taken, and the rest is left. If no value is taken, the list was empty.
abbrev pub TakesFirst : {X V : Type 0} → (X → V) → Option X → List V → List V → Type 0
TakesFirst view (Some x) old new = old ≡ view x ∷ new
TakesFirst view None old new = (old ≡ []) × (new ≡ [])
