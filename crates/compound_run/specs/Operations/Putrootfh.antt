-- PUTROOTFH (RFC 8881, section 18.21): the root becomes the current filehandle.
use Rattle.std.specs.Prelude.{[], Some}
use Rattle.nfs_ops.specs.declared.OpKind.TheVariants as kinds
use Rattle.nfs_ops.specs.Rows.{row}
use Rattle.nfs_ops.specs.Results.{Done}
use Rattle.node_tree.specs.Limits.{ROOT}
use Rattle.compound_run.specs.declared.filehandles.FileHandles.{FileHandles}
use Rattle.compound_run.specs.Context.{Context}
use Rattle.compound_run.specs.Meaning.{Meaning, stays}

abbrev pub putrootfh : Context → FileHandles → Meaning
putrootfh c h = record {
  number = (row kinds.PutRootFh).number;
  caller = c.caller;
  questions = [];
  answer = λ s. Done kinds.PutRootFh tt;
  effect = stays;
  goes = λ s. record h { current = Some ROOT };
}
