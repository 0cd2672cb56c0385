-- Each moment of a call: whatever a crash leaves then, a start finds content that represents a known state.
use Rattle.std.specs.Prelude.{◌≡◌, ◌⊎◌, ℕ, List, [], ◌∷◌, ◌++◌, Option, Some, None, Result}
use Rattle.store_journal.specs.declared.current.Current.{Current}
use Rattle.store_journal.specs.Disk.{Act}
use Rattle.store_journal.specs.Journaled.{Log, IsIn}
use Rattle.store_journal.specs.Serving.{of_acts}
use Rattle.store_journal.specs.Starting.{IsHonest}
use Rattle.compound_run.specs.State.{State}
use Rattle.nfs_hub.specs.Answer.{Served}
use Rattle.hub_laws.specs.Kept.{Logs}
use Rattle.call_store.specs.declared.fault.StoreFault.{StoreFault}
use Rattle.call_store.specs.declared.store.Store.{Store}
use Rattle.call_store.specs.Crash.{LogsRepresent, RepresentAfter}
use Rattle.call_store.specs.Keeping.{KeepGives, MarkGives, CloseGives, BeginsTo}
use Rattle.call_store.specs.Lasting.{IsLasting}
use Rattle.call_store.specs.Opening.{Ending, OpenGives}
use Rattle.call_store.specs.Serving.{Serving}
use Rattle.call_store.specs.Starting.{Collision}

-- these acts extend the first ones, and are a prefix of the last ones
pub record IsMoment (first acts last : List Act) : Type 0 where
  pub before : List Act
  pub after : List Act
  pub acts_are : acts ≡ before ++ first
  pub last_are : last ≡ after ++ acts

-- At each moment from the first acts to the last ones some logs represent these states. `None` is among them only if it
-- was among the logs before.
abbrev pub Throughout : List (Option Log) → List State → List Act → List Act → Type 0
Throughout before states first last = (acts : List Act) → IsMoment first acts last → RepresentAfter before states acts

-- **At each moment of `keep` the disk represents the state before it or the one after it.**
abbrev pub KeepMomentsLaw : Type 0
KeepMomentsLaw =
    (store store' : Store) (old new : Served) (log : List ℕ) (acts acts' : List Act)
    (result : Result (Unit {0}) StoreFault)
    → Serving store old.state acts → Logs [] old new → new.log ≡ Some log → IsLasting new.state
    → KeepGives (of_acts acts acts') store log new.state result store'
    → Throughout [] (old.state ∷ new.state ∷ []) acts acts'

abbrev pub MarkMomentsLaw : Type 0
MarkMomentsLaw =
    (store store' : Store) (s : State) (acts acts' : List Act) (result : Result (Unit {0}) StoreFault)
    → Serving store s acts → MarkGives (of_acts acts acts') store result store' → Throughout [] (s ∷ []) acts acts'

abbrev pub CloseMomentsLaw : Type 0
CloseMomentsLaw =
    (store store' : Store) (s : State) (acts acts' : List Act) (result : Result (Unit {0}) StoreFault)
    → Serving store s acts → IsLasting s → CloseGives (of_acts acts acts') store s result store'
    → Throughout [] (s ∷ []) acts acts'

-- At each moment of `begin` the disk represents a state that it represented before, or the new server.
abbrev pub BeginMomentsLaw : Type 0
BeginMomentsLaw =
    (c : Current) (states : List State) (s : State) (logs : List (Option Log)) (acts acts' : List Act)
    (result : Result Store StoreFault)
    → LogsRepresent states logs acts → IsIn None logs → c.generation ≡ 0 → IsLasting s
    → BeginsTo (of_acts acts acts') c s result → Throughout logs (s ∷ states) acts acts'

-- **At each moment of a start the disk represents the same states as before.** The exception is a checksum collision.
abbrev pub OpenMomentsLaw : Type 0
OpenMomentsLaw =
    (states : List State) (logs : List (Option Log)) (acts acts' : List Act) (result : Result Ending StoreFault)
    → LogsRepresent states logs acts → IsHonest acts' → OpenGives (of_acts acts acts') result
    → Throughout logs states acts acts' ⊎ Collision logs
