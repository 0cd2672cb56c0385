-- RESTOREFH (RFC 8881, section 18.27): the saved filehandle becomes the current one, and stays saved.
use Rattle.std.specs.Prelude.{[]}
use Rattle.nfs_ops.specs.declared.OpKind.TheVariants as kinds
use Rattle.nfs_ops.specs.Rows.{row}
use Rattle.nfs_ops.specs.Results.{Done}
use Rattle.compound_run.specs.declared.filehandles.FileHandles.{FileHandles}
use Rattle.compound_run.specs.Context.{Context}
use Rattle.compound_run.specs.Meaning.{Meaning, stays, with_handle}

abbrev pub restorefh : Context → FileHandles → Meaning
restorefh c h = record {
  number = (row kinds.RestoreFh).number;
  caller = c.caller;
  questions = with_handle h.saved [];
  answer = λ s. Done kinds.RestoreFh tt;
  effect = stays;
  goes = λ s. record h { current = h.saved };
}
