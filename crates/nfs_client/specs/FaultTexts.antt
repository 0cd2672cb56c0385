-- The texts of a client's faults.
use Rattle.std.specs.Prelude.{ℕ, List, ◌++◌, codes, decimal}
use Rattle.std.specs.Option.{option_map_or}
use Rattle.nfs_types.specs.Status.{name_of}
use Rattle.nfs_types.specs.declared.status.Status.{Status}
use Rattle.nfs_ops.specs.Names.{operation_name}
use Rattle.nfs_client.specs.Faults.{number_of}
use Rattle.nfs_client.specs.declared.fault.ToolFault.{ToolFault}
use Rattle.nfs_client.specs.declared.fault.ToolFault.TheVariants.{Refused}

-- the name of an operation that this client knows, or the decimal digits of any other number
abbrev pub operation_text : ℕ → List ℕ
operation_text op = option_map_or (λ name. name) (operation_name op) (decimal op)

-- as in `refused READ ACCESS`
abbrev pub refused_text : ℕ → Status → List ℕ
refused_text op status = codes "refused " ++ operation_text op ++ codes " " ++ name_of status

-- as in `failed 6`
abbrev pub failed_text : ℕ → List ℕ
failed_text number = codes "failed " ++ decimal number

-- a refusal by the names of its operation and its status, any other fault by its number
abbrev pub fault_text : ToolFault → List ℕ
fault_text (Refused op status) = refused_text op status
fault_text fault = failed_text (number_of fault)
