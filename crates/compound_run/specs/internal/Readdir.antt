-- READDIR (RFC 8881, section 18.23): lists entries of the current directory, each with attributes of its object.
use Rattle.std.specs.Prelude.{ℕ, [], ◌∷◌}
use Rattle.xdr_wire.specs.Xdr.{Value}
use Rattle.nfs_ops.specs.Forms.{readdir_args}
use Rattle.nfs_ops.specs.Given.{readdir_outcome}
use Rattle.nfs_ops.specs.declared.OpKind.TheVariants as kinds
use Rattle.nfs_ops.specs.Rows.{row}
use Rattle.compound_run.specs.declared.filehandles.FileHandles.{FileHandles}
use Rattle.compound_run.specs.Context.{Context}
use Rattle.compound_run.specs.Meaning.{Meaning, stays}
use Rattle.compound_run.specs.Operations.Readdir.{fits_some, given_in, listed, refuses_none}

-- READDIR in a directory, with its last two questions alone
abbrev pub listing_of : Value readdir_args → ℕ → Context → FileHandles → Meaning
listing_of v directory c h = record {
  number = (row kinds.ReadDir).number;
  caller = c.caller;
  questions = refuses_none c v directory ∷ fits_some c v directory ∷ [];
  answer = λ s. readdir_outcome (given_in (listed c v directory s));
  effect = stays;
  goes = λ s. h;
}
