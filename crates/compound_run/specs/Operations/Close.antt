-- CLOSE (RFC 8881, section 18.2): closes an open of the current file.
use Rattle.std.specs.Prelude.{ℕ, [], ◌∷◌, unwrap_or}
use Rattle.xdr_wire.specs.Xdr.{Value}
use Rattle.nfs_types.specs.StateIds.{closed, open_of}
use Rattle.nfs_ops.specs.Forms.{close_args}
use Rattle.nfs_ops.specs.Parts.{closed_stateid}
use Rattle.nfs_ops.specs.declared.OpKind.TheVariants as kinds
use Rattle.nfs_ops.specs.Rows.{row}
use Rattle.nfs_ops.specs.Results.{Done}
use Rattle.compound_run.specs.declared.filehandles.FileHandles.{FileHandles}
use Rattle.compound_run.specs.Realm.{Realm}
use Rattle.compound_run.specs.Context.{Context}
use Rattle.compound_run.specs.declared.stateids.Purpose.TheVariants.{ToClose}
use Rattle.compound_run.specs.Stateids.{has_stateid, without_open}
use Rattle.compound_run.specs.Meaning.{Meaning, with_handle, here}

-- the open of this number is closed
abbrev pub ended : ℕ → Realm → Realm
ended number r = record r { opens = without_open number r.opens }

abbrev pub close : Value close_args → Context → FileHandles → Meaning
close v c h = record {
  number = (row kinds.Close).number;
  caller = c.caller;
  questions = with_handle h.current (has_stateid ToClose c (here h) (closed_stateid v) ∷ []);
  answer = λ s. Done kinds.Close closed;
  effect = ended (unwrap_or (open_of (closed_stateid v)) 0);
  goes = λ s. h;
}
