-- The result of an operation in that of a COMPOUND (RFC 8881, sections 16.2 and 18). It has its number, its status and,
-- if that is OK, the value of its form.
use Rattle.std.specs.Prelude.{ℕ, ◌==◌, if◌then◌else◌, [], ◌∷◌, Some}
use Rattle.xdr_wire.specs.Xdr.{Value, uint, fields}
use Rattle.nfs_types.specs.Forms.{bitmap, trimmed}
use Rattle.nfs_types.specs.Status as statuses
use Rattle.nfs_types.specs.declared.status.Status.{Status}
use Rattle.nfs_types.specs.declared.status.Status.TheVariants.{ServerFault}
use Rattle.nfs_ops.specs.Items.{Item, done, plain}
use Rattle.nfs_ops.specs.Rows.{row}
use Rattle.nfs_ops.specs.declared.OpKind.{OpKind}
use Rattle.nfs_ops.specs.declared.OpKind.TheVariants.{SetAttr}

pub data Outcome : Type 0 where
  -- the operation is OK, with this result
  Done : (k : OpKind) → Value (row k).gives.form → Outcome
  -- the operation with this number has another status than OK
  Refused : ℕ → ℕ → Outcome
  -- SETATTR has another status than OK, and nothing was set
  SetAttrRefused : ℕ → Outcome

-- the item of a result
abbrev pub outcome_item : Outcome → Item
outcome_item (Done k v) = done (row k).number (row k).gives v
outcome_item (Refused n status) = plain n status
outcome_item (SetAttrRefused status) = record {
  form = fields (uint ∷ uint ∷ bitmap ∷ []);
  normal = Some (λ v. (v.0, (v.1.0, trimmed v.1.1)));
  value = ((row SetAttr).number, (status, []));
}

-- the number of the operation, and its status
abbrev pub outcome_number : Outcome → ℕ
outcome_number (Done k v) = (row k).number
outcome_number (Refused n status) = n
outcome_number (SetAttrRefused status) = (row SetAttr).number

abbrev pub outcome_status : Outcome → ℕ
outcome_status (Done k v) = 0
outcome_status (Refused n status) = status
outcome_status (SetAttrRefused status) = status

-- A refusal isn't OK: SERVERFAULT, which this server returns nowhere else, replaces OK.
abbrev pub refusal : Status → ℕ
refusal status = if statuses.number_of status == 0 then statuses.number_of ServerFault else statuses.number_of status

-- the operation with this number has this status, which isn't OK
abbrev pub refused : ℕ → ℕ → Outcome
refused n status = if n == (row SetAttr).number then SetAttrRefused status else Refused n status
