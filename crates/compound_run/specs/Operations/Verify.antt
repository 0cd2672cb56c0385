-- VERIFY (RFC 8881, section 18.31): OK if the attributes of the current object have these values.
use Rattle.std.specs.Prelude.{ℕ, Bool, true, false, not, ◌||◌, nat_eq, if◌then◌else◌, List, [], ◌∷◌, Option, Some, None}
use Rattle.std.specs.Cmp.Lexicographic.{pointwise}
use Rattle.xdr_wire.specs.Xdr.{Value}
use Rattle.nfs_types.specs.Forms.{attributes}
use Rattle.nfs_types.specs.Sets.{has_number}
use Rattle.nfs_types.specs.Attributes.{has_set_only, is_within, supported_words}
use Rattle.nfs_types.specs.declared.status.Status.{Status}
use Rattle.nfs_types.specs.declared.status.Status.TheVariants as statuses
use Rattle.nfs_ops.specs.Forms.{verify_args}
use Rattle.nfs_ops.specs.Operations.{Known}
use Rattle.nfs_ops.specs.Parts.{set_of, values_of}
use Rattle.nfs_ops.specs.declared.OpKind.TheVariants as kinds
use Rattle.nfs_ops.specs.Rows.{row}
use Rattle.nfs_ops.specs.Results.{Done}
use Rattle.compound_run.specs.declared.filehandles.FileHandles.{FileHandles}
use Rattle.compound_run.specs.Context.{Context}
use Rattle.compound_run.specs.Sight.{Sight}
use Rattle.compound_run.specs.Faults.{MayFault}
use Rattle.compound_run.specs.Values.{values_at}
use Rattle.compound_run.specs.Questions.{Holds, is_valid}
use Rattle.compound_run.specs.Rows.{first_row}
use Rattle.compound_run.specs.Meaning.{Meaning, stays, with_handle, here}

-- the fault of attributes that can't be compared: unsupported ones, rdattr_error, and those that can only be set
abbrev pub set_fault : (times : Bool) → List ℕ → Option Status
set_fault times set =
    if not (is_within set (supported_words times)) then Some statuses.AttrNotSupp
    else if has_number set 11 || has_set_only set then Some statuses.Inval
    else None

pub set_may : (times : Bool) (set : List ℕ) → MayFault (set_fault times set)
set_may times set = of (not (is_within set (supported_words times))) (has_number set 11 || has_set_only set)
  where
    of : (a b : Bool) → MayFault (if a then Some statuses.AttrNotSupp else if b then Some statuses.Inval else None)
    of true b = tt
    of false true = tt
    of false false = tt

-- whether the values as sent are those that GETATTR returns, byte for byte
unfoldable pub is_same : Context → ℕ → Value attributes → Sight → Bool
is_same c number v s = pointwise nat_eq (values_at c.book s number statuses.Ok (set_of v)) (values_of v)

abbrev pub verify : Value verify_args → Context → FileHandles → Meaning
verify v c h = record {
  number = (row kinds.Verify).number;
  caller = c.caller;
  questions = with_handle h.current
      (is_valid (set_fault c.times (set_of v)) (set_may c.times (set_of v))
      ∷ first_row h (Known kinds.Verify v)
      ∷ Holds (λ s. is_same c (here h) v s) statuses.NotSame tt
      ∷ []);
  answer = λ s. Done kinds.Verify tt;
  effect = stays;
  goes = λ s. h;
}
