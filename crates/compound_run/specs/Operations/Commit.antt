-- COMMIT (RFC 8881, section 18.3): written data are stable already, and nothing is left to do.
use Rattle.std.specs.Prelude.{[], ◌∷◌}
use Rattle.nfs_ops.specs.Views.{zeros_value}
use Rattle.nfs_ops.specs.declared.OpKind.TheVariants as kinds
use Rattle.nfs_ops.specs.Rows.{row}
use Rattle.nfs_ops.specs.Results.{Done}
use Rattle.compound_run.specs.declared.filehandles.FileHandles.{FileHandles}
use Rattle.compound_run.specs.Context.{Context}
use Rattle.compound_run.specs.Meaning.{Meaning, stays, with_handle, here, is_no_directory, is_no_link}

abbrev pub commit : Context → FileHandles → Meaning
commit c h = record {
  number = (row kinds.Commit).number;
  caller = c.caller;
  questions = with_handle h.current (is_no_directory (here h) ∷ is_no_link (here h) ∷ []);
  answer = λ s. Done kinds.Commit zeros_value;
  effect = stays;
  goes = λ s. h;
}
