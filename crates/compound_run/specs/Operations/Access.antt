-- ACCESS (RFC 8881, section 18.1): the requested permissions that are supported for the object, and those that its
-- access control list (ACL) grants. It demands nothing of the ACL, and writes no line.
use Rattle.std.specs.Prelude.{ℕ, []}
use Rattle.xdr_wire.specs.Xdr.{Value}
use Rattle.nfs_ops.specs.Forms.{access_result}
use Rattle.nfs_ops.specs.declared.OpKind.TheVariants as kinds
use Rattle.nfs_ops.specs.Rows.{row}
use Rattle.nfs_ops.specs.Results.{Done}
use Rattle.access_rows.specs.declared.rights.Rights.{Rights}
use Rattle.access_rows.specs.Rights.{rights_of}
use Rattle.access_guard.specs.Lists.{granted_at}
use Rattle.compound_run.specs.declared.filehandles.FileHandles.{FileHandles}
use Rattle.compound_run.specs.Context.{Context}
use Rattle.compound_run.specs.Sight.{Sight, kind_at}
use Rattle.compound_run.specs.Meaning.{Meaning, stays, with_handle, here}

abbrev pub access_value : Rights → Value access_result
access_value r = (r.supported, r.granted)

-- the permissions on an object
abbrev pub rights_at : Context → FileHandles → ℕ → Sight → Rights
rights_at c h asked s = rights_of (kind_at s (here h)) asked (granted_at s.lists c.caller (here h))

abbrev pub access : ℕ → Context → FileHandles → Meaning
access asked c h = record {
  number = (row kinds.Access).number;
  caller = c.caller;
  questions = with_handle h.current [];
  answer = λ s. Done kinds.Access (access_value (rights_at c h asked s));
  effect = stays;
  goes = λ s. h;
}
