-- WRITE (RFC 8881, section 18.32): writes bytes into the current file, at an offset.
use Rattle.std.specs.Prelude.{ℕ, ◌==◌, Bool, true, if◌then◌else◌, List, [], ◌∷◌, length, is_none, None}
use Rattle.std.proofs.Common.{inl}
use Rattle.xdr_wire.specs.Xdr.{Value}
use Rattle.nfs_types.specs.declared.status.Status.TheVariants as statuses
use Rattle.nfs_ops.specs.Forms.{write_args}
use Rattle.nfs_ops.specs.Operations.{Known}
use Rattle.nfs_ops.specs.Parts.{write_stateid, write_offset, written_bytes}
use Rattle.nfs_ops.specs.declared.OpKind.TheVariants as kinds
use Rattle.nfs_ops.specs.Rows.{row}
use Rattle.nfs_ops.specs.Results.{Done}
use Rattle.nfs_ops.specs.Views.{zeros_value}
use Rattle.nfs_types.specs.Limits.{Limits}
use Rattle.node_tree.specs.Changes.{with_write}
use Rattle.node_tree.specs.Refusals.{has_left, write_refusal}
use Rattle.compound_run.specs.declared.filehandles.FileHandles.{FileHandles}
use Rattle.compound_run.specs.Context.{Context}
use Rattle.compound_run.specs.Questions.{Holds}
use Rattle.compound_run.specs.declared.stateids.Purpose.TheVariants.{ToWrite}
use Rattle.compound_run.specs.Sight.{Sight}
use Rattle.compound_run.specs.Stateids.{has_stateid}
use Rattle.compound_run.specs.Rows.{sized_row}
use Rattle.compound_run.specs.Meaning.{Meaning, at, in_world, with_handle, here, is_no_directory, is_no_link}

-- the bytes end within the limit of a file
abbrev pub fits : Limits → ℕ → List ℕ → Bool
fits limits offset more = is_none (write_refusal limits offset more)

-- a tick is left for the bytes; writing none takes no tick
abbrev pub has_tick_for : List ℕ → Sight → Bool
has_tick_for more s = if length more == 0 then true else has_left s.next_tick

abbrev pub write : Value write_args → Context → FileHandles → Meaning
write v c h = record {
  number = (row kinds.Write).number;
  caller = c.caller;
  questions = with_handle h.current
      (is_no_directory (here h)
      ∷ is_no_link (here h)
      ∷ has_stateid ToWrite c (here h) (write_stateid v)
      ∷ sized_row h (Known kinds.Write v) (λ s. None) (λ s. None)
      ∷ Holds (λ s. fits s.limits (write_offset v) (written_bytes v)) statuses.FBig tt
      ∷ Holds (λ s. has_tick_for (written_bytes v) s) statuses.NoSpc tt
      ∷ []);
  -- all bytes, as stable as FILE_SYNC4
  answer = λ s. Done kinds.Write (length (written_bytes v), (inl tt, zeros_value));
  effect = in_world (λ w. with_write w (here h) (write_offset v) (written_bytes v) (at c w));
  goes = λ s. h;
}
