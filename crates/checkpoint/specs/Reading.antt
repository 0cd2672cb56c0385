-- The result of reading the parts of a checkpoint.
use Rattle.std.specs.Prelude.{List, Result, Ok, Err}
use Rattle.store_journal.specs.Disk.{Bytes}
use Rattle.checkpoint.specs.declared.fault.CheckpointFault.{CheckpointFault}
use Rattle.checkpoint.specs.declared.fault.CheckpointFault.TheVariants.{Profile, Corrupt, Memory}
use Rattle.checkpoint.specs.declared.reading.Found.{Found}
use Rattle.checkpoint.specs.Covering.{IsInOrder}
use Rattle.checkpoint.specs.Kept.{Kept}
use Rattle.checkpoint.specs.Holds.{Holds, IsOfOther}

abbrev pub found_kept : {A : Type 0} → Found A → Kept
found_kept found = record { world = found.tree; clients = found.clients; book = found.book }

-- the parts hold no state of this profile
abbrev pub HoldsNothing : List Bytes → Type 0
HoldsNothing parts = (kept : Kept) → Holds parts kept → ⊥

-- **Parts were read as this state, or they weren't read, for a reason.** Profile is reported if and only if
-- it is another one. Records and sessions in the result are in order.
abbrev pub ReadingGives : {A : Type 0} → List Bytes → Result (Found A) CheckpointFault → Type 0
ReadingGives parts (Ok found) = Holds parts (found_kept found) × IsInOrder found.clients.registry
ReadingGives parts (Err Profile) = IsOfOther parts
ReadingGives parts (Err Corrupt) = HoldsNothing parts × (IsOfOther parts → ⊥)
ReadingGives parts (Err Memory) = IsOfOther parts → ⊥
