-- SETATTR with the values that a client sends, without an open (RFC 8881, section 18.30).
use Rattle.std.specs.Prelude.{◌≡◌, ◌<◌, ℕ, length, List, Option, Some, None, Result, Ok, Err}
use Rattle.xdr_wire.specs.Xdr.{Value}
use Rattle.nfs_types.specs.Attributes.{ace}
use Rattle.nfs_types.specs.Forms.{stateid}
use Rattle.nfs_types.specs.Seen.{Seen, client_set, client_values}
use Rattle.nfs_types.specs.StateIds.{anonymous}
use Rattle.nfs_ops.specs.Operations.{Operation, Known}
use Rattle.nfs_ops.specs.declared.OpKind.TheVariants as kinds
use Rattle.nfs_client.specs.Compound.{most_sent}
use Rattle.nfs_client.specs.declared.fault.ToolFault.{ToolFault}
use Rattle.nfs_client.specs.declared.fault.ToolFault.TheVariants.{Memory, TooLarge}
use Rattle.nfs_client.specs.declared.acl_part.AclPart.{AclPart}
use Rattle.nfs_client.specs.declared.acl_part.AclPart.TheVariants.{Acl, Dacl, Sacl}

-- SETATTR of the set of these attributes by a stateid, with these values
abbrev pub set_under : Value stateid → Seen → List ℕ → Operation
set_under id s values = Known kinds.SetAttr (id, (client_set s, values))

-- SETATTR of the set of these attributes without an open, with these values
abbrev pub set_by : Seen → List ℕ → Operation
set_by s values = set_under anonymous s values

abbrev pub set_attributes : Seen → Operation
set_attributes s = set_by s (client_values s)

-- The values of attributes; or an allocation for them fails, or they are too large for a record.
abbrev pub ValuesGive : {X : Type 0} → (X → List ℕ) → Seen → Result X ToolFault → Type 0
ValuesGive bytes s (Ok values) = bytes values ≡ client_values s
ValuesGive bytes s (Err Memory) = Unit {0}
ValuesGive bytes s (Err TooLarge) = most_sent < length (client_values s)
ValuesGive bytes s (Err fault) = ⊥

-- no attribute
abbrev pub of_nothing : Seen
of_nothing =
    record {
      kind = None;
      size = None;
      error = None;
      entries = None;
      mode = None;
      owner = None;
      group = None;
      access = None;
      modify = None;
      dacl = None;
      sacl = None;
    }

-- the mode alone
abbrev pub of_mode : ℕ → Seen
of_mode mode = record of_nothing { mode = Some mode }

-- the ACL (access control list) alone, or a part of it, with no flags
abbrev pub of_entries : AclPart → List (Value ace) → Seen
of_entries Acl entries = record of_nothing { entries = Some entries }
of_entries Dacl entries = record of_nothing { dacl = Some (0, entries) }
of_entries Sacl entries = record of_nothing { sacl = Some (0, entries) }

-- the size alone, if any
abbrev pub with_size : Option ℕ → Seen
with_size size = record of_nothing { size = size }

-- SETATTR of the size alone, by the stateid of an open
abbrev pub set_size : Value stateid → ℕ → Operation
set_size s size = set_under s (with_size (Some size)) (client_values (with_size (Some size)))
