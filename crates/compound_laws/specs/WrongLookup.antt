-- A LOOKUP that reveals whether a name exists before EXECUTE is checked, and two worlds that it distinguishes (RFC
-- 8881, section 18.13).
use Rattle.std.specs.Prelude.{ℕ, List, [], ◌∷◌}
use Rattle.nfs_ops.specs.Operations.{Known}
use Rattle.nfs_ops.specs.declared.OpKind.TheVariants as kinds
use Rattle.compound_run.specs.Context.{Context, Handles}
use Rattle.compound_run.specs.Operations.Lookup.{lookup}
use Rattle.compound_run.specs.Meaning.{Meaning, with_handle, here, is_no_link, is_directory, is_name, has_child}
use Rattle.compound_run.specs.Rows.{first_row}

-- LOOKUP, with its last two questions in the wrong order
abbrev pub disclosing_lookup : List ℕ → Context → Handles → Meaning
disclosing_lookup name c h = record (lookup name c h) {
  questions = with_handle h.current
      (is_no_link (here h)
      ∷ is_directory (here h)
      ∷ is_name name
      ∷ has_child (here h) name
      ∷ first_row h (Known kinds.Lookup name)
      ∷ []);
}
