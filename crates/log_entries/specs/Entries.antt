-- The entries of a log: the inputs of a server, which a replay gives it again.
use Rattle.std.specs.Prelude.{◌<◌, ◌^◌, ℕ, zero, suc, List, [], ◌∷◌, length, Option, Some, None, IfSome, Ok, Err}
use Rattle.std.specs.Prelude.{FitsSigned}
use Rattle.std.specs.Int.{w64}
use Rattle.std.specs.Option.{option_map}
use Rattle.std.proofs.Common.{inl, inr}
use Rattle.xdr_wire.specs.Xdr.{Value, spelling}
use Rattle.xdr_wire.specs.Reading.{Read, read_at}
use Rattle.nfs_types.specs.MomentView.{moment_value, moment_in}
use Rattle.nfs_types.specs.declared.moment.Moment.{Moment}
use Rattle.log_entries.specs.Forms.{call, entry}

-- a logged call
pub record Called : Type 0 where
  -- the moment at which it ran
  pub now : Moment
  -- its record as received: the header with the caller, and the arguments (RFC 5531, section 9)
  pub bytes : List ℕ
  -- the place of the operation whose allocation failed; 0 is the first after SEQUENCE, or the only one
  pub delayed : Option ℕ
  -- the checksum of its results
  pub checksum : ℕ

pub data Entry : Type 0 where
  -- a call was made
  Call : Called → Entry
  -- the client of this number was expired
  ClientExpired : ℕ → Entry
  -- a book of names was loaded, with this text; `None`: the book of a server without one
  Loaded : Option (List ℕ) → Entry

-- ---- writing

abbrev pub call_value : Called → Value call
call_value c = (moment_value c.now, (c.bytes, (c.delayed, c.checksum)))

abbrev pub entry_value : Entry → Value entry
entry_value (Call c) = inl (call_value c)
entry_value (ClientExpired client) = inr (inl client)
entry_value (Loaded text) = inr (inr (inl text))

-- the bytes of an entry in a record of the log
unfoldable pub entry_bytes : Entry → List ℕ
entry_bytes e = spelling entry (entry_value e)

-- the calls that can be written
pub record IsCalled (c : Called) : Type 0 where
  pub seconds : FitsSigned w64 c.now.seconds
  pub bytes : length c.bytes < 2 ^ 32
  pub delayed : IfSome c.delayed (λ place. place < 2 ^ 32)
  pub checksum : c.checksum < 2 ^ 64

-- the entries that can be written
abbrev pub IsEntry : Entry → Type 0
IsEntry (Call c) = IsCalled c
IsEntry (ClientExpired client) = client < 2 ^ 64
IsEntry (Loaded text) = IfSome text (λ t. length t < 2 ^ 32)

-- ---- reading

abbrev pub call_with : Value call → Moment → Called
call_with v now = record { now = now; bytes = v.1.0; delayed = v.1.1.0; checksum = v.1.1.1 }

abbrev pub call_in : Value call → Option Called
call_in v = option_map (call_with v) (moment_in v.0)

abbrev pub entry_in : Value entry → Option Entry
entry_in (inl v) = option_map Call (call_in v)
entry_in (inr (inl client)) = Some (ClientExpired client)
entry_in (inr (inr (inl text))) = Some (Loaded text)
entry_in (inr (inr (inr none))) = elim none [ ]

-- the meaning of a value that was read, if it has one, and the bytes after it
abbrev pub meant : {V M : Type 0} → (V → Option M) → Read V → Option (M × List ℕ)
meant meaning (Ok x) = option_map (λ m. (m, x.1)) (meaning x.0)
meant meaning (Err e) = None

-- The entry at the start of the bytes, and the bytes after it. `None`: the bytes end inside an entry, its kind is
-- unknown, or its moment has a billion nanoseconds or more.
unfoldable pub entry_at : List ℕ → Option (Entry × List ℕ)
entry_at bytes = meant entry_in (read_at entry bytes)

-- an entry that was read, and the entries of the bytes after it
abbrev pub then_others : (List ℕ → Option (List Entry)) → Option (Entry × List ℕ) → Option (List Entry)
then_others others None = None
then_others others (Some x) = option_map (λ es. x.0 ∷ es) (others x.1)

-- the entries of the bytes, at most `n` of them
abbrev pub entries_by : ℕ → List ℕ → Option (List Entry)
entries_by n [] = Some []
entries_by zero (b ∷ bytes) = None
entries_by (suc n) (b ∷ bytes) = then_others (entries_by n) (entry_at (b ∷ bytes))

-- All entries of a record of the log, in their order. `None`: some bytes are no entry. Each entry has at least one
-- byte. The entries are therefore at most as many as the bytes.
unfoldable pub entries_in : List ℕ → Option (List Entry)
entries_in bytes = entries_by (length bytes) bytes
