-- GETATTR (RFC 8881, section 18.7): attributes of the current object.
use Rattle.std.specs.Prelude.{ℕ, List, [], ◌∷◌, length}
use Rattle.xdr_wire.specs.Xdr.{Value}
use Rattle.nfs_types.specs.Forms.{attributes}
use Rattle.nfs_types.specs.declared.status.Status.TheVariants as statuses
use Rattle.nfs_ops.specs.Forms.{getattr_size}
use Rattle.nfs_ops.specs.Operations.{Known}
use Rattle.nfs_ops.specs.Parts.{set_of, values_of}
use Rattle.nfs_ops.specs.declared.OpKind.TheVariants as kinds
use Rattle.nfs_ops.specs.Rows.{row}
use Rattle.nfs_ops.specs.Results.{Done}
use Rattle.compound_run.specs.declared.filehandles.FileHandles.{FileHandles}
use Rattle.compound_run.specs.Context.{Context}
use Rattle.compound_run.specs.Sight.{Sight}
use Rattle.compound_run.specs.Values.{attributes_at}
use Rattle.compound_run.specs.Requested.{requested, is_readable}
use Rattle.compound_run.specs.Rows.{first_row}
use Rattle.compound_run.specs.Meaning.{Meaning, stays, with_handle, here, has_room}

-- the attributes of an object
unfoldable pub attributes_of : Context → ℕ → List ℕ → Sight → Value attributes
attributes_of c number asked s = attributes_at c.book s number statuses.Ok asked

-- the byte count of the result
abbrev pub result_size : Value attributes → ℕ
result_size v = getattr_size (length (set_of v)) (length (values_of v))

abbrev pub getattr : List ℕ → Context → FileHandles → Meaning
getattr asked c h = record {
  number = (row kinds.GetAttr).number;
  caller = c.caller;
  questions = with_handle h.current
      (is_readable (requested c asked)
      ∷ first_row h (Known kinds.GetAttr (requested c asked))
      ∷ has_room c (λ s. result_size (attributes_of c (here h) (requested c asked) s))
      ∷ []);
  answer = λ s. Done kinds.GetAttr (attributes_of c (here h) (requested c asked) s);
  effect = stays;
  goes = λ s. h;
}
