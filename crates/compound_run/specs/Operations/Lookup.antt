-- LOOKUP (RFC 8881, section 18.13): the child of a name becomes the current filehandle.
use Rattle.std.specs.Prelude.{ℕ, List, [], ◌∷◌}
use Rattle.nfs_ops.specs.Operations.{Known}
use Rattle.nfs_ops.specs.declared.OpKind.TheVariants as kinds
use Rattle.nfs_ops.specs.Rows.{row}
use Rattle.nfs_ops.specs.Results.{Done}
use Rattle.compound_run.specs.declared.filehandles.FileHandles.{FileHandles}
use Rattle.compound_run.specs.Context.{Context}
use Rattle.compound_run.specs.Sight.{child}
use Rattle.compound_run.specs.Rows.{first_row}
use Rattle.compound_run.specs.Meaning.{Meaning, stays, with_handle, here, is_no_link, is_directory, is_name, has_child}

abbrev pub lookup : List ℕ → Context → FileHandles → Meaning
lookup name c h = record {
  number = (row kinds.Lookup).number;
  caller = c.caller;
  questions = with_handle h.current
      (is_no_link (here h)
      ∷ is_directory (here h)
      ∷ is_name name
      ∷ first_row h (Known kinds.Lookup name)
      ∷ has_child (here h) name
      ∷ []);
  answer = λ s. Done kinds.Lookup tt;
  effect = stays;
  goes = λ s. record h { current = child s (here h) name };
}
