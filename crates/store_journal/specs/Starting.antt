-- A start over a disk whose reads return what its acts may have left.
use Rattle.std.specs.Prelude.{◌≡◌, ◌⊎◌, ℕ, List, [], ◌∷◌, Option, Some, None}
use Rattle.store_journal.specs.declared.current.Current.{Current}
use Rattle.store_journal.specs.declared.fault.OpenFault.{OpenFault}
use Rattle.store_journal.specs.declared.fault.OpenFault.TheVariants.{Failed, Memory}
use Rattle.store_journal.specs.Disk.{Bytes, Act, Read, Unread, Found, Unfound, Wrote, Tore, Synced, Unsynced, Turned}
use Rattle.store_journal.specs.Disk.{Unturned, on_disk, on_current, MayLeave, MayRead}
use Rattle.store_journal.specs.Journaled.{Log, IsIn, IsJournal, Survives, at_begun}
use Rattle.store_journal.specs.Opening.{LoadGives, LoadFails}
use Rattle.store_journal.specs.Serving.{of_acts}

-- each read returned what the acts before it may have left
abbrev pub IsHonest : List Act → Type 0
IsHonest [] = Unit {0}
IsHonest (Read found ∷ acts) = MayRead (on_current acts) found × IsHonest acts
IsHonest (Unread ∷ acts) = IsHonest acts
IsHonest (Found s bytes ∷ acts) = MayLeave (on_disk s acts) bytes × IsHonest acts
IsHonest (Unfound s ∷ acts) = IsHonest acts
IsHonest (Wrote s at bytes ∷ acts) = IsHonest acts
IsHonest (Tore s at bytes ∷ acts) = IsHonest acts
IsHonest (Synced s ∷ acts) = IsHonest acts
IsHonest (Unsynced s ∷ acts) = IsHonest acts
IsHonest (Turned bytes ∷ acts) = IsHonest acts
IsHonest (Unturned bytes ∷ acts) = IsHonest acts

-- CURRENT names the log, and its file was read
pub record FindsLog (log : Log) (acts acts' : List Act) (c : Current) (file : Bytes) : Type 0 where
  pub begun : ℕ
  pub current_is : c ≡ at_begun log.current begun
  pub found : Option Bytes
  pub acts_are : acts' ≡ Found log.current.slot file ∷ Read found ∷ acts
  pub left : MayLeave (on_disk log.current.slot acts) file
  pub survives : Survives log c file

-- one of these logs, or none if no checkpoint was finished yet
abbrev pub Finds : List (Option Log) → List Act → List Act → Option Current → Bytes → Type 0
Finds logs acts acts' None file = IsIn None logs × (file ≡ [])
Finds logs acts acts' (Some c) file =
    (IsIn None logs × (c.generation ≡ 0) × (file ≡ []))
    ⊎ ((log : Log) × IsIn (Some log) logs × FindsLog log acts acts' c file)

-- **What is loaded is one of the logs that may be active.**
abbrev pub FindLaw : Type 0
FindLaw =
    (logs : List (Option Log)) (acts acts' : List Act) (current : Option Current) (file : Bytes)
    → IsJournal logs acts → IsHonest acts' → LoadGives (of_acts acts acts') current file
    → Finds logs acts acts' current file

-- **Loading is never refused**, unless the disk can't be read or an allocation fails.
abbrev pub RefuseLaw : Type 0
RefuseLaw =
    (logs : List (Option Log)) (acts acts' : List Act) (fault : OpenFault)
    → IsJournal logs acts → IsHonest acts' → LoadFails (of_acts acts acts') fault
    → (fault ≡ Failed) ⊎ (fault ≡ Memory)
