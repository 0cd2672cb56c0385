-- The values that were read from the bytes of a checkpoint or a record, as the definitions see them.
use Rattle.std.specs.Prelude.{ℕ, List, None}
use Rattle.xdr_wire.specs.Xdr.{Value, uint}
use Rattle.xdr_wire.specs.Wire.{array_values}
use Rattle.session_slots.specs.declared.forms.RecordForm.{RecordForm}
use Rattle.session_slots.specs.declared.forms.CallForm.{CallForm}
use Rattle.session_slots.specs.Registry.{Client}
use Rattle.session_slots.specs.Forms.{call}

abbrev pub form_client : RecordForm → Client
form_client f = record {
  number = f.number;
  owner = f.owner.bytes.now;
  verifier = f.verifier;
  uid = f.uid;
  confirmed = f.confirmed;
  created = f.created;
  reclaimed = f.reclaimed;
}

-- the groups in the order in which they were read
abbrev pub groups_in : ℕ → List ℕ → List ℕ
groups_in count bytes = array_values uint None count bytes

abbrev pub form_call : CallForm → Value call
form_call f = (
  f.session,
  (
    f.slot,
    (
      f.number,
      ((f.uid, (f.gid, groups_in f.groups.count f.groups.bytes.now)), (f.arguments.bytes.now, f.results.bytes.now)),
    ),
  ),
)
