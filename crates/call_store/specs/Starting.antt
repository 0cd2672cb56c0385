-- A store is opened over a disk that returns what its acts may have left.
use Rattle.std.specs.Prelude.{◌⊎◌, List, Option, Some, None, Result, Ok, Err}
use Rattle.store_journal.specs.declared.current.Current.{Current}
use Rattle.store_journal.specs.Disk.{Bytes, Act}
use Rattle.store_journal.specs.Journaled.{Log, IsIn, HasCollision}
use Rattle.store_journal.specs.Serving.{of_acts}
use Rattle.store_journal.specs.Starting.{IsHonest}
use Rattle.compound_run.specs.Covering.{Covers}
use Rattle.compound_run.specs.State.{State}
use Rattle.nfs_hub.specs.Answer.{started}
use Rattle.call_store.specs.declared.fault.StoreFault.{StoreFault}
use Rattle.call_store.specs.declared.fault.StoreFault.TheVariants.{Failed, Version, Corrupt, Memory, Full, Unfit}
use Rattle.call_store.specs.declared.store.Store.{Store}
use Rattle.call_store.specs.Crash.{LogsRepresent, RepresentAfter}
use Rattle.call_store.specs.Opening.{Ending, IsNew, Started, OpenGives, IsUnfinished}
use Rattle.call_store.specs.Serving.{Serving}

-- a checksum collision in the file of one of the logs
pub record Collision (logs : List (Option Log)) : Type 0 where
  pub log : Log
  pub of_these : IsIn (Some log) logs
  pub file : Bytes
  pub by : HasCollision log file

-- the started server covers one of these states, and the store keeps the started server's state
pub record GoesOn (states : List State) (store : Store) (restart : State) (acts : List Act) : Type 0 where
  pub state : State
  pub of_these : IsIn state states
  pub covers : Covers (started restart).state state
  pub serving : Serving store (started restart).state acts

-- no checkpoint was finished yet, and the store can be begun
pub record StaysNew (before : List (Option Log)) (states : List State) (current : Option Current) (acts : List Act)
    : Type 0 where
  pub unfinished : IsUnfinished current
  pub none_before : IsIn None before
  pub logs : List (Option Log)
  pub none : IsIn None logs
  pub represents : LogsRepresent states logs acts

abbrev pub AfterOpen : List (Option Log) → List State → Result Ending StoreFault → List Act → Type 0
AfterOpen before states (Ok (IsNew current)) acts = StaysNew before states current acts
AfterOpen before states (Ok (Started store q)) acts = GoesOn states store q acts
AfterOpen before states (Err Failed) acts = RepresentAfter before states acts
AfterOpen before states (Err Version) acts = ⊥
AfterOpen before states (Err (Corrupt corruption)) acts = ⊥
AfterOpen before states (Err Memory) acts = RepresentAfter before states acts
AfterOpen before states (Err Full) acts = ⊥
AfterOpen before states (Err Unfit) acts = ⊥

-- **A start continues from the kept content.** The exception is a checksum collision. A start is refused only if the
-- disk fails or an allocation fails. Then the disk represents the same states as before.
abbrev pub OpenLaw : Type 0
OpenLaw =
    (states : List State) (logs : List (Option Log)) (acts acts' : List Act) (result : Result Ending StoreFault)
    → LogsRepresent states logs acts → IsHonest acts' → OpenGives (of_acts acts acts') result
    → AfterOpen logs states result acts' ⊎ Collision logs
