-- The state with which a run begins, given what the earlier runs have left.
use Rattle.std.specs.Prelude.{◌≡◌, ◌⊎◌, List, [], ◌∷◌, ◌++◌, Option, Some, None}
use Rattle.store_journal.specs.Disk.{Act as DiskAct}
use Rattle.store_journal.specs.Journaled.{Log, IsIn}
use Rattle.nfs_types.specs.Limits as profiles
use Rattle.who_book.specs.Content.{Content}
use Rattle.compound_run.specs.Covering.{Covers}
use Rattle.compound_run.specs.State.{State, with_book}
use Rattle.nfs_hub.specs.Answer.{Served, with_lasting_sessions}
use Rattle.call_store.specs.Crash.{LogsRepresent, RepresentAfter}

-- The result of the earlier runs: all acts of the disk so far, the newest first; the logs, one of which is active; and
-- the states that they represent. A log is `None` if no checkpoint was finished yet.
pub record Before : Type 0 where
  pub states : List State
  pub logs : List (Option Log)
  pub history : List DiskAct
  pub holds : LogsRepresent states logs history

-- **The first server of a run covers one of the states that the disk represented.** Or no checkpoint was finished yet.
-- Then the server has only a root, with the profile and the book of this start.
abbrev pub BeginsWith : Before → profiles.Limits → Content → Served → Type 0
BeginsWith before profile book first =
    ((s : State) × IsIn s before.states × Covers first.state s)
    ⊎ (IsIn None before.logs × (first ≡ with_lasting_sessions profile book))

-- the state with which a run begins, or that state with the book of this start
pub record IsBegun (before : Before) (profile : profiles.Limits) (book : Content) (t : State) : Type 0 where
  pub first : Served
  pub begins : BeginsWith before profile book first
  pub is : (t ≡ first.state) ⊎ (t ≡ with_book book first.state)

-- After each of these acts of the disk, and before the first, some logs represent these states. `None` is among them
-- only if it is among the logs from before.
abbrev pub AlwaysRepresent : Before → List State → List DiskAct → Type 0
AlwaysRepresent before states [] = RepresentAfter before.logs states before.history
AlwaysRepresent before states (act ∷ acts) =
    RepresentAfter before.logs states (act ∷ acts ++ before.history) × AlwaysRepresent before states acts

-- **Until the first reply a crash leaves a state from before this run, or the one with which this run begins.**
pub record RepresentsMeanwhile (before : Before) (profile : profiles.Limits) (book : Content) (acts : List DiskAct)
    : Type 0 where
  pub states : List State
  pub each : (t : State) → IsIn t states → IsIn t before.states ⊎ IsBegun before profile book t
  pub always : AlwaysRepresent before states acts
