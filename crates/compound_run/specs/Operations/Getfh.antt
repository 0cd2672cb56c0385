-- GETFH (RFC 8881, section 18.8): the current filehandle.
use Rattle.std.specs.Prelude.{[]}
use Rattle.nfs_types.specs.Handles.{object_handle}
use Rattle.nfs_ops.specs.declared.OpKind.TheVariants as kinds
use Rattle.nfs_ops.specs.Rows.{row}
use Rattle.nfs_ops.specs.Results.{Done}
use Rattle.compound_run.specs.declared.filehandles.FileHandles.{FileHandles}
use Rattle.compound_run.specs.Context.{Context}
use Rattle.compound_run.specs.Meaning.{Meaning, stays, with_handle, here}

abbrev pub getfh : Context → FileHandles → Meaning
getfh c h = record {
  number = (row kinds.GetFh).number;
  caller = c.caller;
  questions = with_handle h.current [];
  answer = λ s. Done kinds.GetFh (object_handle (here h));
  effect = stays;
  goes = λ s. h;
}
