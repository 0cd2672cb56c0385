-- NVERIFY (RFC 8881, section 18.15): OK if the attributes of the current object don't all have these values.
use Rattle.std.specs.Prelude.{not, [], ◌∷◌}
use Rattle.xdr_wire.specs.Xdr.{Value}
use Rattle.nfs_types.specs.declared.status.Status.TheVariants as statuses
use Rattle.nfs_ops.specs.Forms.{nverify_args}
use Rattle.nfs_ops.specs.Operations.{Known}
use Rattle.nfs_ops.specs.Parts.{set_of}
use Rattle.nfs_ops.specs.declared.OpKind.TheVariants as kinds
use Rattle.nfs_ops.specs.Rows.{row}
use Rattle.nfs_ops.specs.Results.{Done}
use Rattle.compound_run.specs.declared.filehandles.FileHandles.{FileHandles}
use Rattle.compound_run.specs.Context.{Context}
use Rattle.compound_run.specs.Questions.{Holds, is_valid}
use Rattle.compound_run.specs.Rows.{first_row}
use Rattle.compound_run.specs.Operations.Verify.{set_fault, set_may, is_same}
use Rattle.compound_run.specs.Meaning.{Meaning, stays, with_handle, here}

abbrev pub nverify : Value nverify_args → Context → FileHandles → Meaning
nverify v c h = record {
  number = (row kinds.NVerify).number;
  caller = c.caller;
  questions = with_handle h.current
      (is_valid (set_fault c.times (set_of v)) (set_may c.times (set_of v))
      ∷ first_row h (Known kinds.NVerify v)
      ∷ Holds (λ s. not (is_same c (here h) v s)) statuses.Same tt
      ∷ []);
  answer = λ s. Done kinds.NVerify tt;
  effect = stays;
  goes = λ s. h;
}
