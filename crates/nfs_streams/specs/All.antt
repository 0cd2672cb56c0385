-- Serving all streams.
use Rattle.std.specs.Prelude.{◌≡◌, ◌≤◌, ℕ, false, List, [], ◌++◌, Option, None}
use Rattle.store_journal.specs.Disk.{Act as DiskAct}
use Rattle.call_store.specs.declared.store.Store.{Store as CallStore}
use Rattle.nfs_hub.specs.declared.hub.Hub.{Hub}
use Rattle.nfs_hub.specs.Answer.{Served as ServedState}
use Rattle.nfs_hub.specs.Machine.{State, Event, IsHistory}
use Rattle.nfs_hub.specs.Hub.{IsHub}
use Rattle.nfs_streams.specs.declared.serving.AllEnd.{AllEnd}
use Rattle.nfs_streams.specs.declared.serving.AllEnd.TheVariants.{Served, Turns, Wait, Keep, Store, Memory}
use Rattle.nfs_streams.specs.declared.serving.Limits.{Limits}
use Rattle.nfs_streams.specs.Acts.{Act, Waited, Lost, Unstored, Adds, Just, of_streams, waits, admitted}
use Rattle.nfs_streams.specs.Runs.{Runs, Ends}
use Rattle.nfs_streams.specs.Keeping.{SurvivesIn}

-- no connection of this number or a later one is open
abbrev pub AreClosed : ℕ → State → Type 0
AreClosed start s = (id : ℕ) → start ≤ id → s.connection id ≡ None

-- The reason why serving ends. `Served`: all connections that the limit allows were admitted, and all of them are
-- closed. `Turns`: the limit of waits is reached. `Wait`: the last wait failed. `Keep`: the trail couldn't be kept.
-- `Store`: the persistent state couldn't be stored. `Memory`: the allocation of the places failed, and nothing was
-- done.
abbrev pub EndReason : AllEnd → Limits → State → List Act → State → Type 0
EndReason Served limits start acts s = (admitted acts ≡ limits.connections) × AreClosed start.next s
EndReason Turns limits start acts s = waits acts ≡ limits.turns
EndReason Wait limits start acts s = Just (Waited false) acts
EndReason Keep limits start acts s = Just Lost acts
EndReason Store limits start acts s = Just Unstored acts
EndReason Memory limits start acts s = acts ≡ []

-- the inputs of serving: its limits; its store, if any; and the history of the store's files
pub record Means : Type 0 where
  pub limits : Limits
  pub store : Option CallStore
  pub history : List DiskAct

-- the observable parts of serving: the hub, and the acts of the streams if they are known
pub record Seen (A : Type 0) : Type 0 where
  pub hub : Hub A
  pub acts : Option (List Act)

-- **Serving all streams.** The hub represents a state to which these events bring the machine. From that state the acts
-- run the machine, each allowed when it happens. The numbers of waits and of connections are within the limits. Then
-- the streams that are still at places are closed, and no connection since the start is open. The acts of the streams
-- are exactly those of these acts that are calls of the streams and of the disk. The hub represents the state that the
-- machine reaches. With a store, a crash after any of the acts leaves the effects of every call whose reply was
-- written.
pub record ServesAll {A : Type 0} (first : ServedState) (events : List Event) (means : Means) (end : AllEnd)
    (old new : Seen A) : Type 0 where
  pub start : State
  pub extends : IsHistory first events start
  pub was : IsHub old.hub start
  pub acts : List Act
  pub served : State
  pub run : Runs means.limits acts start served
  pub kept : SurvivesIn means.store means.history means.limits acts start served run
  pub few_turns : waits acts ≤ means.limits.turns
  pub few_connections : admitted acts ≤ means.limits.connections
  pub ends : EndReason end means.limits start acts served
  pub endings : List Act
  pub last : State
  pub closing : Ends acts endings served last
  pub closed : AreClosed start.next last
  pub adds : Adds old.acts new.acts (of_streams (endings ++ acts))
  pub is : IsHub new.hub last
  pub later : List Event
  pub on : IsHistory first (later ++ events) last
