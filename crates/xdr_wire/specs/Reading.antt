-- Reading a value from left to right, up to the first fault.
use Rattle.std.specs.Prelude.{◌≡◌, ◌+◌, ℕ, ℤ, zero, suc, Bool, true, false, List, [], ◌∷◌, length, take, drop, Option}
use Rattle.std.specs.Prelude.{Some, None, Result, Ok, Err, nat_lt, ◌==◌, if◌then◌else◌}
use Rattle.std.proofs.Common.{inl, inr}
use Rattle.std.specs.Int.{Width, w32, w64, byte_len, from_be_bytes, cast_signed}
use Rattle.std.specs.List.{list_all}
use Rattle.xdr_wire.specs.declared.fault.XdrFault.{XdrFault}
use Rattle.xdr_wire.specs.declared.fault.XdrFault.TheVariants.{Short, BadBool, BadPad, TooLong, BadChoice}
use Rattle.xdr_wire.specs.Xdr.{Xdr, void, uint, hyper, signed_hyper, boolean, fixed, opaque, pair, fixed_array, array}
use Rattle.xdr_wire.specs.Xdr.{optional, chain, union, Arms, no_more, arm, otherwise, ArmValue, Value, padding}

infixl 10 ◌>>=◌
abbrev pub ◌>>=◌ : {A B : Type 0} → Result A XdrFault → (A → Result B XdrFault) → Result B XdrFault
(Ok x) >>= f = f x
(Err e) >>= f = Err e

-- a value, and the bytes after it; or the first fault
abbrev pub Read : Type 0 → Type 0
Read V = Result (V × List ℕ) XdrFault

abbrev pub number_at : Width → List ℕ → Read ℕ
number_at w bytes =
    if nat_lt (length bytes) (byte_len w) then Err Short
    else Ok (from_be_bytes w (take (byte_len w) bytes), drop (byte_len w) bytes)

abbrev pub integer_at : Width → List ℕ → Read ℤ
integer_at w bytes = number_at w bytes >>= λ n. Ok (cast_signed w n.0, n.1)

abbrev pub are_zero : List ℕ → Bool
are_zero bytes = list_all (λ b. b == 0) bytes

-- n bytes and their padding
unfoldable pub padded_at : ℕ → List ℕ → Read (List ℕ)
padded_at n bytes =
    if nat_lt (length bytes) (n + padding n) then Err Short else
    if are_zero (take (padding n) (drop n bytes)) then Ok (take n bytes, drop (n + padding n) bytes) else Err BadPad

abbrev pub boolean_from : ℕ × List ℕ → Read Bool
boolean_from (zero, rest) = Ok (false, rest)
boolean_from (suc zero, rest) = Ok (true, rest)
boolean_from (suc (suc n), rest) = Err BadBool

abbrev pub boolean_at : List ℕ → Read Bool
boolean_at bytes = number_at w32 bytes >>= boolean_from

-- a count or a length that is at most max
abbrev pub count_at : ℕ → List ℕ → Read ℕ
count_at max bytes = number_at w32 bytes >>= λ n. if nat_lt max n.0 then Err TooLong else Ok n

-- a value after its count or its length, which bounds its reading
abbrev pub counted : {V : Type 0} → ℕ → (ℕ → List ℕ → Read V) → List ℕ → Read V
counted max body bytes = count_at max bytes >>= λ n. body n.0 n.1

abbrev pub items_at : {V : Type 0} → (List ℕ → Read V) → ℕ → List ℕ → Read (List V)
items_at item zero bytes = Ok ([], bytes)
items_at item (suc n) bytes = item bytes >>= λ x. items_at item n x.1 >>= λ xs. Ok (x.0 ∷ xs.0, xs.1)

abbrev pub optional_from : {V : Type 0} → (List ℕ → Read V) → Bool × List ℕ → Read (Option V)
optional_from item (false, rest) = Ok (None, rest)
optional_from item (true, rest) = item rest >>= λ x. Ok (Some x.0, x.1)

-- after TRUE the list continues, and FALSE ends it
abbrev pub linked : {V : Type 0} → (List ℕ → Read (List V)) → Bool × List ℕ → Read (List V)
linked onward (false, rest) = Ok ([], rest)
linked onward (true, rest) = onward rest

-- Items, each after its link. A link takes four bytes, and the links are therefore fewer than the bytes.
abbrev pub links_at : {V : Type 0} → (List ℕ → Read V) → ℕ → List ℕ → Read (List V)
links_at item zero bytes = Err Short
links_at item (suc n) bytes =
    boolean_at bytes >>= linked (λ rest. item rest >>= λ x. links_at item n x.1 >>= λ xs. Ok (x.0 ∷ xs.0, xs.1))

abbrev mutual
  pub read_at : (t : Xdr) → List ℕ → Read (Value t)
  read_at void bytes = Ok (tt, bytes)
  read_at uint bytes = number_at w32 bytes
  read_at hyper bytes = number_at w64 bytes
  read_at signed_hyper bytes = integer_at w64 bytes
  read_at boolean bytes = boolean_at bytes
  read_at (fixed n) bytes = padded_at n bytes
  read_at (opaque max) bytes = counted max padded_at bytes
  read_at (pair s t) bytes = read_at s bytes >>= λ x. read_at t x.1 >>= λ y. Ok ((x.0, y.0), y.1)
  read_at (fixed_array n t) bytes = items_at (read_at t) n bytes
  read_at (array max t) bytes = counted max (items_at (read_at t)) bytes
  read_at (optional t) bytes = boolean_at bytes >>= optional_from (read_at t)
  read_at (chain t) bytes = links_at (read_at t) (length bytes) bytes
  read_at (union a) bytes = number_at w32 bytes >>= λ d. read_arm a d.0 d.1

  -- after the discriminant d
  pub read_arm : (a : Arms) → ℕ → List ℕ → Read (ArmValue a)
  read_arm no_more d bytes = Err BadChoice
  read_arm (arm n t others) d bytes =
      if d == n then (read_at t bytes >>= λ x. Ok (inl x.0, x.1))
      else (read_arm others d bytes >>= λ x. Ok (inr x.0, x.1))
  read_arm (otherwise t) d bytes = read_at t bytes >>= λ x. Ok ((d, x.0), x.1)

-- A call returns the value that reading gives, or its fault; after a fault the bytes are unchanged.
abbrev pub Gives : {X V : Type 0} → (X → V) → List ℕ → List ℕ → Result X XdrFault → Read V → Type 0
Gives view old new (Ok x) read = read ≡ Ok (view x, new)
Gives view old new (Err e) read = (read ≡ Err e) × (new ≡ old)
