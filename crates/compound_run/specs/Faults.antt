-- The statuses with which a question of an operation may fail. They are neither OK nor ACCESS, with which rows alone
-- fail. They aren't DELAY either, which means that an allocation failed.
use Rattle.std.specs.Prelude.{Option, Some, None, Result, Ok, Err}
use Rattle.nfs_types.specs.declared.status.Status.{Status}
use Rattle.nfs_types.specs.declared.status.Status.TheVariants as statuses

abbrev pub IsFault : Status → Type 0
IsFault statuses.Ok = ⊥
IsFault statuses.Access = ⊥
IsFault statuses.Delay = ⊥
IsFault _ = Unit {0}

-- the fault is none, or one of these statuses
abbrev pub MayFault : Option Status → Type 0
MayFault None = Unit {0}
MayFault (Some status) = IsFault status

-- a value, or a fault
abbrev pub IsValueOrFault : {A : Type 0} → Result A Status → Type 0
IsValueOrFault (Ok value) = Unit {0}
IsValueOrFault (Err status) = IsFault status

-- the first of two faults
abbrev pub first_fault : Option Status → Option Status → Option Status
first_fault None second = second
first_fault (Some status) second = Some status

pub first_may : (first second : Option Status) → MayFault first → MayFault second → MayFault (first_fault first second)
first_may None second may may' = may'
first_may (Some status) second may may' = may

-- the fault of a result, if it is no value
abbrev pub fault_in : {A : Type 0} → Result A Status → Option Status
fault_in (Ok value) = None
fault_in (Err status) = Some status

pub fault_in_may : {A : Type 0} (r : Result A Status) → IsValueOrFault r → MayFault (fault_in r)
fault_in_may (Ok value) may = tt
fault_in_may (Err status) may = may
