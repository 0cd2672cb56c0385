-- SAVEFH (RFC 8881, section 18.28): the current filehandle is saved.
use Rattle.std.specs.Prelude.{[]}
use Rattle.nfs_ops.specs.declared.OpKind.TheVariants as kinds
use Rattle.nfs_ops.specs.Rows.{row}
use Rattle.nfs_ops.specs.Results.{Done}
use Rattle.compound_run.specs.declared.filehandles.FileHandles.{FileHandles}
use Rattle.compound_run.specs.Context.{Context}
use Rattle.compound_run.specs.Meaning.{Meaning, stays, with_handle}

abbrev pub savefh : Context → FileHandles → Meaning
savefh c h = record {
  number = (row kinds.SaveFh).number;
  caller = c.caller;
  questions = with_handle h.current [];
  answer = λ s. Done kinds.SaveFh tt;
  effect = stays;
  goes = λ s. record h { saved = h.current };
}
