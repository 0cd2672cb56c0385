-- A checkpoint is begun, its parts are written in order, and it is finished.
use Rattle.std.specs.Prelude.{◌≡◌, ◌⊎◌, ◌+◌, ℕ, min, Bool, true, false, List, [], ◌∷◌, ◌++◌, length, Result, Ok, Err}
use Rattle.store_journal.specs.declared.fault.JournalFault.{JournalFault}
use Rattle.store_journal.specs.declared.journal.Journal.{Journal}
use Rattle.store_journal.specs.Disk.{Bytes}
use Rattle.store_journal.specs.Frames.{Frame, PART, frame_with}
use Rattle.store_journal.specs.Keeping.{BeginGives, PartGives, FinishGives, IsAsBefore}
use Rattle.store_journal.specs.Passage.{Passage, Unchanged, passage}
use Rattle.tree_parts.specs.Parts.{parts}
use Rattle.compound_run.specs.ClientState.{opens_fit}
use Rattle.compound_run.specs.State.{State}
use Rattle.checkpoint.specs.declared.fault.WriteFault.{WriteFault}
use Rattle.checkpoint.specs.declared.fault.WriteFault.TheVariants.{Unfit, Memory, Refused}
use Rattle.checkpoint.specs.Covering.{IsInOrder}
use Rattle.checkpoint.specs.Holds.{Holds}
use Rattle.checkpoint.specs.Kept.{Kept, IsOf}

-- ---- parts

-- the frame of a part
abbrev pub part_frame : Bytes → Frame
part_frame bytes = frame_with PART bytes

-- these parts were written, in order
abbrev pub PartsGiven : {D : Type 0} → Passage D → Journal → List Bytes → Journal → Type 0
PartsGiven p j [] j' = Unchanged p × (j' ≡ j)
PartsGiven {D} p j (bytes ∷ parts) j' =
    (mid : D) × (k : Journal) × PartGives (passage p.adds p.old mid) j (part_frame bytes) (Ok tt) k
    × PartsGiven (passage p.adds mid p.new) k parts j'

-- A prefix of the parts was written. Then an allocation failed for the next one.
pub record PartsLeft {D : Type 0} (p : Passage D) (j : Journal) (parts : List Bytes) (j' : Journal) : Type 0 where
  pub prefix : List Bytes
  pub others : List Bytes
  pub parts_are : parts ≡ prefix ++ others
  pub given : PartsGiven p j prefix j'

-- A prefix of the parts was written. Then the journal refused the next one.
pub record PartsStop {D : Type 0} (p : Passage D) (j : Journal) (parts : List Bytes) (fault : JournalFault)
    (j' : Journal) : Type 0 where
  pub prefix : List Bytes
  pub next : Bytes
  pub others : List Bytes
  pub parts_are : parts ≡ prefix ++ next ∷ others
  pub mid : D
  pub k : Journal
  pub given : PartsGiven (passage p.adds p.old mid) j prefix k
  pub refused : PartGives (passage p.adds mid p.new) k (part_frame next) (Err fault) j'

-- all parts were written, or a prefix of them
abbrev pub PartsEnd : {D : Type 0} → Passage D → Journal → List Bytes → Result (Unit {0}) WriteFault → Journal → Type 0
PartsEnd p j parts (Ok done) j' = PartsGiven p j parts j'
PartsEnd p j parts (Err Unfit) j' = ⊥
PartsEnd p j parts (Err Memory) j' = PartsLeft p j parts j'
PartsEnd p j parts (Err (Refused fault)) j' = PartsStop p j parts fault j'

-- ---- a checkpoint

-- It was begun, and then writing its parts ended with this result.
pub record BegunParts {D : Type 0} (p : Passage D) (j : Journal) (parts : List Bytes)
    (result : Result (Unit {0}) WriteFault) (j' : Journal) : Type 0 where
  pub mid : D
  pub k : Journal
  pub begun : BeginGives (passage p.adds p.old mid) j (Ok tt) k
  pub ended : PartsEnd (passage p.adds mid p.new) k parts result j'

-- It was begun, all parts were written, and then the journal ended it with this result.
pub record Ended {D : Type 0} (p : Passage D) (machine : ℕ) (j : Journal) (parts : List Bytes)
    (result : Result (Unit {0}) JournalFault) (j' : Journal) : Type 0 where
  pub mid : D
  pub k : Journal
  pub written : BegunParts (passage p.adds p.old mid) j parts (Ok tt) k
  pub finished : FinishGives (passage p.adds mid p.new) machine k result j'

-- the size of the parts in bytes
abbrev pub total : List Bytes → ℕ
total [] = 0
total (bytes ∷ parts) = length bytes + total parts

-- that size, in 64 bits
abbrev pub size_of : List Bytes → ℕ
size_of parts = min (total parts) 18446744073709551615

-- **A checkpoint of these parts was written**, or nothing was done, or a step of it failed.
abbrev pub CheckpointGives : {D : Type 0} → Passage D → ℕ → Journal → List Bytes → Result ℕ WriteFault → Journal
    → Type 0
CheckpointGives p machine j parts (Ok size) j' = Ended p machine j parts (Ok tt) j' × (size ≡ size_of parts)
CheckpointGives p machine j parts (Err Unfit) j' = IsAsBefore p j j'
CheckpointGives p machine j parts (Err Memory) j' = IsAsBefore p j j' ⊎ BegunParts p j parts (Err Memory) j'
CheckpointGives p machine j parts (Err (Refused fault)) j' =
    BeginGives p j (Err fault) j'
    ⊎ (BegunParts p j parts (Err (Refused fault)) j' ⊎ Ended p machine j parts (Err fault) j')

-- ---- of a server

-- The parts hold the whole state of a server, and a server can be restored over it. Records and sessions are
-- in order on both sides, as `CoversLaw` requires.
pub record KeepsAll (parts : List Bytes) (kept : Kept) (s : State) : Type 0 where
  pub holds : Holds parts kept
  pub is_of : IsOf kept s
  pub fits : opens_fit kept.world kept.clients ≡ true
  pub in_order : IsInOrder kept.clients.registry
  pub was_in_order : IsInOrder s.realm.registry

-- it stopped before all parts were written
abbrev pub BreaksOff : {D : Type 0} → Passage D → Journal → List Bytes → WriteFault → Journal → Type 0
BreaksOff p j parts Unfit j' = IsAsBefore p j j'
BreaksOff p j parts Memory j' = IsAsBefore p j j' ⊎ BegunParts p j parts (Err Memory) j'
BreaksOff p j parts (Refused fault) j' =
    BeginGives p j (Err fault) j' ⊎ BegunParts p j parts (Err (Refused fault)) j'

-- all parts were written, and the journal refused to end it
abbrev pub EndsNot : {D : Type 0} → Passage D → ℕ → Journal → List Bytes → WriteFault → Journal → Type 0
EndsNot p machine j parts Unfit j' = ⊥
EndsNot p machine j parts Memory j' = ⊥
EndsNot p machine j parts (Refused fault) j' = Ended p machine j parts (Err fault) j'

-- **A checkpoint of a server**: its parts hold the whole state, or it wasn't written.
abbrev pub WritingGives : {D : Type 0} → Passage D → ℕ → Journal → State → Result ℕ WriteFault → Journal → Type 0
WritingGives p machine j s (Ok size) j' =
    (parts : List Bytes) × (kept : Kept) × KeepsAll parts kept s × CheckpointGives p machine j parts (Ok size) j'
WritingGives p machine j s (Err fault) j' =
    ((parts : List Bytes) × BreaksOff p j parts fault j')
    ⊎ ((parts : List Bytes) × (kept : Kept) × KeepsAll parts kept s × EndsNot p machine j parts fault j')

-- it is refused as Unfit if and only if the open files don't fit
abbrev pub IsUnfitUnless : Bool → Result ℕ WriteFault → Type 0
IsUnfitUnless fits (Ok size) = fits ≡ true
IsUnfitUnless fits (Err Unfit) = fits ≡ false
IsUnfitUnless fits (Err Memory) = fits ≡ true
IsUnfitUnless fits (Err (Refused fault)) = fits ≡ true
