-- LOOKUPP (RFC 8881, section 18.14): the parent of the current directory becomes the current filehandle. The root has
-- no parent.
use Rattle.std.specs.Prelude.{[], ◌∷◌, is_some}
use Rattle.nfs_types.specs.declared.status.Status.TheVariants as statuses
use Rattle.nfs_ops.specs.Operations.{Known}
use Rattle.nfs_ops.specs.declared.OpKind.TheVariants as kinds
use Rattle.nfs_ops.specs.Rows.{row}
use Rattle.nfs_ops.specs.Results.{Done}
use Rattle.compound_run.specs.declared.filehandles.FileHandles.{FileHandles}
use Rattle.compound_run.specs.Context.{Context}
use Rattle.compound_run.specs.Questions.{Holds}
use Rattle.compound_run.specs.Rows.{first_row}
use Rattle.compound_run.specs.Meaning.{Meaning, stays, with_handle, here, is_no_link, is_directory}

abbrev pub lookupp : Context → FileHandles → Meaning
lookupp c h = record {
  number = (row kinds.LookupP).number;
  caller = c.caller;
  questions = with_handle h.current
      (is_no_link (here h)
      ∷ is_directory (here h)
      ∷ first_row h (Known kinds.LookupP tt)
      ∷ Holds (λ s. is_some (s.parents (here h))) statuses.NoEnt tt
      ∷ []);
  answer = λ s. Done kinds.LookupP tt;
  effect = stays;
  goes = λ s. record h { current = s.parents (here h) };
}
