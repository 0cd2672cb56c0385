-- An operation with its arguments in a COMPOUND, and how the next one is read (RFC 8881, sections 16.2 and 18). The
-- names of the reading's steps and of their continuations (`.._from`, `or_bad`) are only for the prover.
use Rattle.std.specs.Prelude.{ℕ, Bool, true, false, ◌&&◌, ◌||◌, nat_le, if◌then◌else◌, List, [], ◌∷◌, Option, Some}
use Rattle.std.specs.Prelude.{None, Ok, Err, is_ok}
use Rattle.std.specs.Option.{option_map}
use Rattle.xdr_wire.specs.Xdr.{Xdr, Value, uint}
use Rattle.xdr_wire.specs.Reading.{Read as ReadOf, read_at}
use Rattle.xdr_wire.specs.Wire.{in_normal_form}
use Rattle.nfs_ops.specs.Items.{Item, numbered, number}
use Rattle.nfs_ops.specs.Rows.{row, kind_at}
use Rattle.nfs_ops.specs.declared.OpKind.{OpKind}
use Rattle.nfs_ops.specs.declared.op_kind.Placement.{Placement}

pub data Operation : Type 0 where
  -- an operation with the value of its arguments
  Known : (k : OpKind) → Value (row k).takes.form → Operation
  -- an operation that isn't supported, or whose arguments aren't, with its number
  Unsupported : ℕ → Operation
  -- a number that isn't the number of any operation
  Illegal : Operation
  -- the arguments of the operation with this number can't be read
  Bad : ℕ → Operation

-- OP_ILLEGAL
abbrev pub illegal : ℕ
illegal = 10044

-- the number in the result
abbrev pub number_of : Operation → ℕ
number_of (Known k v) = (row k).number
number_of (Unsupported n) = n
number_of Illegal = illegal
number_of (Bad n) = n

-- the operation without its arguments; none for an entry that can't be run
abbrev pub kind_in : Operation → Option OpKind
kind_in (Known k v) = Some k
kind_in _ = None

-- the place of an operation in a COMPOUND
abbrev pub placement_of : Operation → Option Placement
placement_of op = option_map (λ k. (row k).placement) (kind_in op)

-- the number and the arguments, as they are written; only the number of an unsupported or illegal operation
abbrev pub op_item : Operation → Item
op_item (Known k v) = numbered (row k).number (row k).takes v
op_item (Unsupported n) = number n
op_item Illegal = number illegal
op_item (Bad n) = number n

-- whether this is an operation with its arguments
abbrev pub is_built : Operation → Bool
is_built (Known k v) = true
is_built _ = false

-- the bytes begin with a value of one of these forms
abbrev pub any_at_start : List Xdr → List ℕ → Bool
any_at_start [] bytes = false
any_at_start (t ∷ []) bytes = is_ok (read_at t bytes)
any_at_start (t ∷ s ∷ others) bytes = is_ok (read_at t bytes) || any_at_start (s ∷ others) bytes

-- the arguments, or that they aren't supported, whatever follows the unsupported word
abbrev pub supported : (k : OpKind) → List ℕ → ReadOf (Value (row k).takes.form) → ReadOf Operation
supported k bytes (Ok x) = Ok (Known k x.0, x.1)
supported k bytes (Err fault) =
    if any_at_start (row k).unsupported bytes then Ok (Unsupported (row k).number, bytes) else Err fault

-- the arguments of this operation
unfoldable pub arguments_of : OpKind → List ℕ → ReadOf Operation
arguments_of k bytes = supported k bytes (in_normal_form (row k).takes.normal (read_at (row k).takes.form bytes))

-- a number whose operation isn't supported and whose arguments aren't read, or a number that isn't any operation's
abbrev pub no_operation : ℕ → Operation
no_operation n = if nat_le 3 n && nat_le n 58 then Unsupported n else Illegal

abbrev pub arguments_from : ℕ → List ℕ → Option OpKind → ReadOf Operation
arguments_from n bytes (Some k) = arguments_of k bytes
arguments_from n bytes None = Ok (no_operation n, bytes)

-- after an operation's number: its arguments
unfoldable pub arguments_at : ℕ → List ℕ → ReadOf Operation
arguments_at n bytes = arguments_from n bytes (kind_at n)

abbrev pub or_bad : ℕ → List ℕ → ReadOf Operation → Operation × List ℕ
or_bad n bytes (Ok x) = x
or_bad n bytes (Err fault) = (Bad n, bytes)

abbrev pub next_from : List ℕ → ReadOf ℕ → Operation × List ℕ
next_from bytes (Ok (n, rest)) = or_bad n rest (arguments_at n rest)
next_from bytes (Err fault) = (Bad illegal, bytes)

-- the next operation, and the bytes after it
unfoldable pub next_at : List ℕ → Operation × List ℕ
next_at bytes = next_from bytes (read_at uint bytes)
