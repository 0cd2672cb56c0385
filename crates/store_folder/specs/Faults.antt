-- Why a folder isn't opened, and the system's error that is kept.
use Rattle.std.specs.Prelude.{◌≡◌, ◌≢◌}
use Rattle.std.specs.declared.io.Error.{Error}
use Rattle.std.specs.declared.io.ErrorKind.TheVariants.{OutOfMemory}
use Rattle.std.specs.IoError.{error_kind}
use Rattle.store_journal.specs.declared.disk.Slot.{Slot}
use Rattle.store_journal.specs.declared.disk.Slot.TheVariants.{A, B}
use Rattle.store_folder.specs.declared.fault.FolderFault.{FolderFault}
use Rattle.store_folder.specs.declared.fault.FolderFault.TheVariants.{InUse, Failed, Earlier, Corrupt, Memory}
use Rattle.store_folder.specs.declared.fault.Operation.{Operation}
use Rattle.store_folder.specs.declared.fault.Part.{Part}
use Rattle.store_folder.specs.declared.fault.Part.TheVariants.{A as TreeA, B as TreeB}

abbrev pub part_in : Slot → Part
part_in A = TreeA
part_in B = TreeB

-- the system returned this error for a part; a failed allocation is a case of its own
abbrev pub IsFaultOf : Part → Operation → Error → FolderFault → Type 0
IsFaultOf part operation error InUse = ⊥
IsFaultOf part operation error (Failed failure) =
    (error_kind error ≢ OutOfMemory) × (failure ≡ record { part = part; operation = operation; error = error })
IsFaultOf part operation error Earlier = ⊥
IsFaultOf part operation error (Corrupt other flaw) = ⊥
IsFaultOf part operation error Memory = error_kind error ≡ OutOfMemory

-- why a folder isn't opened; a failed allocation is never a failure of the system
abbrev pub IsFault : FolderFault → Type 0
IsFault InUse = Unit {0}
IsFault (Failed failure) = error_kind failure.error ≢ OutOfMemory
IsFault Earlier = Unit {0}
IsFault (Corrupt part flaw) = Unit {0}
IsFault Memory = Unit {0}
