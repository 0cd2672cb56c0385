-- A result: the values to set, or the status of a refusal.
use Rattle.std.specs.Prelude.{◌≡◌, Bool, true, IsOkAnd, Result, Ok, Err}
use Rattle.acl_shape.specs.declared.request.AdmitFault.{AdmitFault}
use Rattle.acl_shape.specs.declared.request.AdmitFault.TheVariants as faults
use Rattle.nfs_types.specs.Sent.{status_of}
use Rattle.nfs_types.specs.declared.status.Status.{Status}
use Rattle.nfs_types.specs.declared.attrs.AttrsFault.{AttrsFault}
use Rattle.nfs_types.specs.declared.attrs.AttrsFault.TheVariants.{Refused, Memory}

abbrev pub attrs_fault : AdmitFault → AttrsFault
attrs_fault faults.NoSpc = Refused (status_of faults.NoSpc)
attrs_fault faults.AttrNotSupp = Refused (status_of faults.AttrNotSupp)
attrs_fault faults.Inval = Refused (status_of faults.Inval)
attrs_fault faults.BadOwner = Refused (status_of faults.BadOwner)
attrs_fault faults.Memory = Memory

-- The result is the values to set, or the status of the refusal. `Memory` is returned only for values that have an
-- access control list or a part of one and aren't refused.
abbrev pub Answers : {X V : Type 0} → (X → V) → (V → Bool) → Result V Status → Result X AttrsFault → Type 0
Answers view has_acl wanted (Ok x) = wanted ≡ Ok (view x)
Answers view has_acl wanted (Err (Refused status)) = wanted ≡ Err status
Answers view has_acl wanted (Err Memory) = IsOkAnd wanted (λ v. has_acl v ≡ true)
