-- PUTFH (RFC 8881, section 18.19): this filehandle becomes the current one.
use Rattle.std.specs.Prelude.{ℕ, List, [], ◌∷◌, Option, Some, None, Result, Ok, Err}
use Rattle.nfs_types.specs.declared.status.Status.{Status}
use Rattle.nfs_types.specs.Handles.{object_of}
use Rattle.nfs_ops.specs.declared.OpKind.TheVariants as kinds
use Rattle.nfs_ops.specs.Rows.{row}
use Rattle.nfs_ops.specs.Results.{Done}
use Rattle.compound_run.specs.declared.filehandles.FileHandles.{FileHandles}
use Rattle.compound_run.specs.Context.{Context}
use Rattle.compound_run.specs.Faults.{fault_in, fault_in_may}
use Rattle.compound_run.specs.ArgumentFaults.{object_may}
use Rattle.compound_run.specs.Questions.{is_valid}
use Rattle.compound_run.specs.Meaning.{Meaning, stays, is_live}

-- the object number of a filehandle, if it is valid
abbrev pub object_in : Result ℕ Status → Option ℕ
object_in (Ok number) = Some number
object_in (Err status) = None

abbrev pub putfh : List ℕ → Context → FileHandles → Meaning
putfh handle c h = record {
  number = (row kinds.PutFh).number;
  caller = c.caller;
  questions =
      is_valid (fault_in (object_of handle)) (fault_in_may (object_of handle) (object_may handle))
      ∷ is_live (object_in (object_of handle)) ∷ [];
  answer = λ s. Done kinds.PutFh tt;
  effect = stays;
  goes = λ s. record h { current = object_in (object_of handle) };
}
