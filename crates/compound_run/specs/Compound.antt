-- A COMPOUND: the fields before its operations, and its results (RFC 8881, section 16.2).
use Rattle.std.specs.Prelude.{ℕ, ◌+◌, ◌-◌, ◌==◌, nat_lt, if◌then◌else◌, List, [], ◌∷◌, ◌++◌, length, Option, Some}
use Rattle.std.specs.Prelude.{None, Ok, Err}
use Rattle.xdr_wire.specs.Xdr.{Xdr, Value, uint, opaque, fields, spelling, padded}
use Rattle.xdr_wire.specs.Reading.{Read}
use Rattle.nfs_types.specs.declared.status.Status.{Status}
use Rattle.nfs_types.specs.declared.status.Status.TheVariants as statuses
use Rattle.nfs_types.specs.Status.{number_of as status_number}
use Rattle.compound_run.specs.Limits.{MAX_TAG, MINOR_VERSION, REPLY_HEADER, REFUSAL_ROOM}
use Rattle.compound_run.specs.Context.{Context}
use Rattle.compound_run.specs.Runs.{Given, status_of, results_bytes}

-- COMPOUND4args up to the operations: a tag, the minor version, and how many operations follow
abbrev pub args_form : Xdr
args_form = fields (opaque MAX_TAG ∷ uint ∷ uint ∷ [])

-- the tag, the minor version and the count, with the bytes after them, if they can be read
abbrev pub args_in : Read (Value args_form) → Option (Value args_form × List ℕ)
args_in (Ok (v, rest)) = Some (v, rest)
args_in (Err fault) = None

-- COMPOUND4res up to the results: the status of the last one, the tag, and how many results follow
abbrev pub head_form : Xdr
head_form = fields (uint ∷ opaque MAX_TAG ∷ uint ∷ [])

abbrev pub head : Status → List ℕ → ℕ → List ℕ
head s tag count = spelling head_form (status_number s, (tag, count))

-- the bytes of the header of a reply and of the head of its results
abbrev pub before_results : List ℕ → ℕ
before_results tag = REPLY_HEADER + 12 + length (padded tag)

-- the room of the first operation, in a reply of at most `limit` bytes
abbrev pub first_room : ℕ → List ℕ → ℕ
first_room limit tag = limit - before_results tag - REFUSAL_ROOM

-- the status of the last operation that ran
abbrev pub last_status : List Given → Status
last_status [] = statuses.Ok
last_status (given ∷ []) = status_of given
last_status (given ∷ next ∷ results) = last_status (next ∷ results)

-- the results of a COMPOUND
abbrev pub together : List ℕ → List Given → List ℕ
together tag results = head (last_status results) tag (length results) ++ results_bytes results

-- operations that run in turn: the tag of their COMPOUND, the context of the first of them, and their bytes
pub record Series : Type 0 where
  pub tag : List ℕ
  pub context : Context
  pub operations : List ℕ

abbrev pub series : List ℕ → Context → List ℕ → Series
series tag c operations = record { tag = tag; context = c; operations = operations }

-- Another minor version is refused before any operation. A COMPOUND with more operations than the limit is refused too,
-- if the minor version is right.
abbrev pub opening_fault : ℕ → ℕ → ℕ → Option Status
opening_fault most minor count =
    if minor == MINOR_VERSION then (if nat_lt most count then Some statuses.TooManyOps else None)
    else Some statuses.MinorVersMismatch
