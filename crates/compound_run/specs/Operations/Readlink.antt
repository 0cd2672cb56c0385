-- READLINK (RFC 8881, section 18.24): the text of a symbolic link.
use Rattle.std.specs.Prelude.{[], ◌∷◌}
use Rattle.nfs_types.specs.declared.status.Status.TheVariants as statuses
use Rattle.nfs_ops.specs.Forms.{readlink_size}
use Rattle.nfs_ops.specs.Operations.{Known}
use Rattle.nfs_ops.specs.declared.OpKind.TheVariants as kinds
use Rattle.nfs_ops.specs.Rows.{row}
use Rattle.nfs_ops.specs.Results.{Done}
use Rattle.compound_run.specs.declared.filehandles.FileHandles.{FileHandles}
use Rattle.compound_run.specs.Context.{Context}
use Rattle.compound_run.specs.Questions.{Holds}
use Rattle.compound_run.specs.Rows.{first_row}
use Rattle.compound_run.specs.Meaning.{Meaning, stays, with_handle, here, is_link_in, has_room}

abbrev pub readlink : Context → FileHandles → Meaning
readlink c h = record {
  number = (row kinds.ReadLink).number;
  caller = c.caller;
  questions = with_handle h.current
      (Holds (λ s. is_link_in s (here h)) statuses.WrongType tt
      ∷ first_row h (Known kinds.ReadLink tt)
      ∷ has_room c (λ s. readlink_size (s.sizes (here h)))
      ∷ []);
  answer = λ s. Done kinds.ReadLink (s.bytes (here h));
  effect = stays;
  goes = λ s. h;
}
