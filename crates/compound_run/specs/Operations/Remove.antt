-- REMOVE (RFC 8881, section 18.25): removes a name of the current directory. When the last name of an object is
-- removed, the object is removed too, and its opens are closed.
use Rattle.std.specs.Prelude.{ℕ, not, List, [], ◌∷◌, None}
use Rattle.nfs_types.specs.declared.status.Status.TheVariants as statuses
use Rattle.nfs_ops.specs.Operations.{Known}
use Rattle.nfs_ops.specs.declared.OpKind.TheVariants as kinds
use Rattle.nfs_ops.specs.Rows.{row}
use Rattle.nfs_ops.specs.Results.{Done}
use Rattle.node_tree.specs.Changes.{unlinked}
use Rattle.compound_run.specs.declared.filehandles.FileHandles.{FileHandles}
use Rattle.compound_run.specs.Realm.{with_loss}
use Rattle.compound_run.specs.Context.{Context}
use Rattle.compound_run.specs.Sight.{child, whole}
use Rattle.compound_run.specs.Questions.{Holds}
use Rattle.compound_run.specs.Rows.{first_row, second_row}
use Rattle.compound_run.specs.Meaning.{Meaning, at, changed, with_handle, here, number_in, is_directory, is_name}
use Rattle.compound_run.specs.Meaning.{has_child, has_tick}

abbrev pub remove : List ℕ → Context → FileHandles → Meaning
remove name c h = record {
  number = (row kinds.Remove).number;
  caller = c.caller;
  questions = with_handle h.current
      (is_directory (here h)
      ∷ is_name name
      ∷ first_row h (Known kinds.Remove name)
      ∷ has_child (here h) name
      ∷ second_row h (Known kinds.Remove name) (λ s. child s (here h) name) (λ s. None)
      ∷ Holds (λ s. not (s.has_entries (number_in (child s (here h) name)))) statuses.NotEmpty tt
      ∷ has_tick
      ∷ []);
  answer = λ s. Done kinds.Remove (changed s (here h));
  effect = λ r. with_loss (unlinked r.world (here h) name (at c r.world)) (child (whole r) (here h) name) r;
  goes = λ s. h;
}
