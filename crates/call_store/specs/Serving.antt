-- How the acts of each call of a store change what the disk represents.
use Rattle.std.specs.Prelude.{◌≡◌, ◌⊎◌, ℕ, true, false, List, [], ◌∷◌, Option, Some, None, Result, Ok, Err}
use Rattle.store_journal.specs.declared.current.Current.{Current}
use Rattle.store_journal.specs.Disk.{Act}
use Rattle.store_journal.specs.Journaled.{Log, IsIn}
use Rattle.store_journal.specs.Serving.{Serves, of_acts}
use Rattle.compound_run.specs.State.{State}
use Rattle.nfs_hub.specs.Answer.{Served}
use Rattle.hub_laws.specs.Kept.{Logs}
use Rattle.call_store.specs.declared.fault.StoreFault.{StoreFault}
use Rattle.call_store.specs.declared.store.Store.{Store}
use Rattle.call_store.specs.Crash.{LogsRepresent, KeptRepresent, RepresentAfter}
use Rattle.call_store.specs.Keeping.{KeepGives, MarkGives, CloseGives, BeginsTo}
use Rattle.call_store.specs.Lasting.{IsLasting}
use Rattle.call_store.specs.Machine.{MACHINE, IsOwn}
use Rattle.call_store.specs.Representing.{Represents}

-- **After these acts the store keeps the state of a server**: one log is active, all of it is synced, and it represents
-- that state.
pub record Serving (store : Store) (s : State) (acts : List Act) : Type 0 where
  pub log : Log
  pub serves : Serves store.journal (Some log) acts
  pub represents : Represents log.content s
  pub own : IsOwn log.current.machine log.content
  pub records : store.has_records ≡ false → log.content.records ≡ []

-- **The disk represents what a store keeps**, and no other state.
abbrev pub ServingLaw : Type 0
ServingLaw = (store : Store) (s : State) (acts : List Act) → Serving store s acts → KeptRepresent (s ∷ []) acts

-- After a fault the disk represents one of the two states. The store has stopped, or it keeps the first state as
-- before.
pub record AfterFault (s t : State) (store : Store) (acts : List Act) : Type 0 where
  pub represents : KeptRepresent (s ∷ t ∷ []) acts
  pub stops : (store.journal.has_failed ≡ true) ⊎ Serving store s acts

-- A call that a crash interrupts counts as one that fails. A crash at any moment of it therefore leaves one of the two
-- states.
abbrev pub AfterCall : State → State → Result (Unit {0}) StoreFault → Store → List Act → Type 0
AfterCall s t (Ok done) store acts = Serving store t acts
AfterCall s t (Err fault) store acts = AfterFault s t store acts

-- **What was logged is kept.**
abbrev pub KeepLaw : Type 0
KeepLaw =
    (store store' : Store) (old new : Served) (log : List ℕ) (acts acts' : List Act)
    (result : Result (Unit {0}) StoreFault)
    → Serving store old.state acts → Logs [] old new → new.log ≡ Some log → IsLasting new.state
    → KeepGives (of_acts acts acts') store log new.state result store'
    → AfterCall old.state new.state result store' acts'

-- A mark changes nothing of what is kept.
abbrev pub MarkLaw : Type 0
MarkLaw =
    (store store' : Store) (s : State) (acts acts' : List Act) (result : Result (Unit {0}) StoreFault)
    → Serving store s acts → MarkGives (of_acts acts acts') store result store' → AfterCall s s result store' acts'

-- a store has no entries, and its checkpoint is of this machine
pub record IsClosed (store : Store) (s : State) (acts : List Act) : Type 0 where
  pub serving : Serving store s acts
  pub no_records : serving.log.content.records ≡ []
  pub machine : serving.log.current.machine ≡ MACHINE

abbrev pub AfterClose : State → Result (Unit {0}) StoreFault → Store → List Act → Type 0
AfterClose s (Ok done) store acts = IsClosed store s acts
AfterClose s (Err fault) store acts = AfterFault s s store acts

-- **A store that is closed has no entries.**
abbrev pub CloseLaw : Type 0
CloseLaw =
    (store store' : Store) (s : State) (acts acts' : List Act) (result : Result (Unit {0}) StoreFault)
    → Serving store s acts → IsLasting s → CloseGives (of_acts acts acts') store s result store'
    → AfterClose s result store' acts'

abbrev pub AfterBegin : List (Option Log) → List State → State → Result Store StoreFault → List Act → Type 0
AfterBegin before states s (Ok store) acts = Serving store s acts
AfterBegin before states s (Err fault) acts = RepresentAfter before (s ∷ states) acts

-- **A new store keeps its server.** No checkpoint was finished yet. Or one was, and CURRENT may or may not have been
-- replaced to name it.
abbrev pub BeginLaw : Type 0
BeginLaw =
    (c : Current) (states : List State) (s : State) (logs : List (Option Log)) (acts acts' : List Act)
    (result : Result Store StoreFault)
    → LogsRepresent states logs acts → IsIn None logs → c.generation ≡ 0 → IsLasting s
    → BeginsTo (of_acts acts acts') c s result → AfterBegin logs states s result acts'
