-- A run of a server whose state is kept: its store is opened, and then it serves.
use Rattle.std.specs.Prelude.{◌≡◌, ◌≢◌, ◌⊎◌, List, [], ◌∷◌, ◌++◌, map, Option, Some, None}
use Rattle.store_journal.specs.Disk.{Act as DiskAct}
use Rattle.store_journal.specs.Journaled.{IsIn}
use Rattle.store_journal.specs.Starting.{IsHonest}
use Rattle.nfs_types.specs.Limits as profiles
use Rattle.who_book.specs.Content.{Content}
use Rattle.call_store.specs.declared.fault.StoreFault.{StoreFault}
use Rattle.call_store.specs.declared.fault.StoreFault.TheVariants.{Failed, Version, Corrupt, Memory as NoMemory, Full}
use Rattle.call_store.specs.declared.fault.StoreFault.TheVariants.{Unfit}
use Rattle.call_store.specs.declared.store.Store.{Store}
use Rattle.call_store.specs.Serving.{Serving}
use Rattle.call_store.specs.Starting.{Collision}
use Rattle.compound_run.specs.State.{State as ServerState}
use Rattle.nfs_hub.specs.declared.hub.Hub.{Hub}
use Rattle.nfs_hub.specs.Answer.{Served}
use Rattle.nfs_hub.specs.Machine.{Event, BeginLog, Reload}
use Rattle.nfs_streams.specs.declared.serving.AllEnd.{AllEnd}
use Rattle.nfs_streams.specs.declared.serving.Limits.{Limits}
use Rattle.nfs_streams.specs.Acts.{Act, OnDisk, Adds}
use Rattle.nfs_streams.specs.All.{ServesAll}
use Rattle.kept_server.specs.declared.serving.KeptEnd.{KeptEnd}
use Rattle.kept_server.specs.declared.serving.KeptEnd.TheVariants.{Ended, Unopened, Unready, Memory}
use Rattle.kept_server.specs.declared.serving.KeptEnd.TheVariants.{Exhausted, OtherProfile}
use Rattle.kept_server.specs.Beginning.{Before, BeginsWith, RepresentsMeanwhile}

-- acts of the disk as acts of the site
abbrev pub on_disk : List DiskAct → List Act
on_disk acts = map OnDisk acts

-- The log is begun. If another book was kept, that of this start is then loaded, and the log is begun anew.
abbrev pub IsLoading : Content → List Event → Type 0
IsLoading book events = (events ≡ BeginLog ∷ []) ⊎ (events ≡ BeginLog ∷ Reload book ∷ BeginLog ∷ [])

-- **The store is open.** It keeps this state, whose profile and book are those of this start.
pub record IsOpened (before : Before) (profile : profiles.Limits) (book : Content) (acts : List DiskAct)
    (state : ServerState) : Type 0 where
  pub store : Store
  pub serving : Serving store state (acts ++ before.history)
  pub profile_is : state.realm.world.limits ≡ profile
  pub book_is : state.settings.book ≡ book

-- The server serves over the open store, as the contract of `serve_all` states. So a crash after each act leaves a
-- state that has everything that was done for each reply.
pub record Serves (A : Type 0) (before : Before) (profile : profiles.Limits) (book : Content) (limits : Limits)
    (end : AllEnd) (acts : List DiskAct) (mid new : Option (List Act)) : Type 0 where
  pub first : Served
  pub begins : BeginsWith before profile book first
  pub events : List Event
  pub loading : IsLoading book events
  pub store : Store
  pub hub : Hub A
  pub hub' : Hub A
  pub serves : ServesAll first events (record { limits = limits; store = Some store; history = acts ++ before.history }) end
      (record { hub = hub; acts = mid }) (record { hub = hub'; acts = new })
  pub opened : IsOpened before profile book acts serves.start.served.state

-- the store is never refused for its content
abbrev pub IsRefusal : StoreFault → Type 0
IsRefusal Failed = Unit {0}
IsRefusal Version = ⊥
IsRefusal (Corrupt corruption) = ⊥
IsRefusal NoMemory = Unit {0}
IsRefusal Full = Unit {0}
IsRefusal Unfit = Unit {0}

-- the store is of another profile: a state that the disk represented has other limits
abbrev pub IsOfOther : Before → profiles.Limits → Type 0
IsOfOther before profile = (s : ServerState) × IsIn s before.states × (s.realm.world.limits ≢ profile)

-- how a run ends after these acts of the disk
abbrev pub EndsSo : (A : Type 0) → Before → profiles.Limits → Content → Limits → KeptEnd → List DiskAct
    → Option (List Act) → Option (List Act) → Type 0
EndsSo A before profile book limits (Ended end) acts mid new = Serves A before profile book limits end acts mid new
EndsSo A before profile book limits (Unopened fault) acts mid new = IsRefusal fault × (new ≡ mid)
EndsSo A before profile book limits Unready acts mid new =
    Adds mid new [] × ((state : ServerState) × IsOpened before profile book acts state)
EndsSo A before profile book limits Memory acts mid new = new ≡ mid
EndsSo A before profile book limits Exhausted acts mid new = new ≡ mid
EndsSo A before profile book limits OtherProfile acts mid new = IsOfOther before profile × (new ≡ mid)

-- A run after these acts of the disk, which open the store.
pub record Goes (A : Type 0) (before : Before) (profile : profiles.Limits) (book : Content) (limits : Limits)
    (end : KeptEnd) (acts : List DiskAct) (mid new : Option (List Act)) : Type 0 where
  pub meanwhile : RepresentsMeanwhile before profile book acts
  pub ends : EndsSo A before profile book limits end acts mid new

-- **A run resumes from what the earlier runs have left.** The disk has to return what its acts may have left. The
-- exception is a checksum collision.
pub record ServesKept (A : Type 0) (before : Before) (profile : profiles.Limits) (book : Content) (limits : Limits)
    (end : KeptEnd) (old new : Option (List Act)) : Type 0 where
  pub acts : List DiskAct
  pub mid : Option (List Act)
  pub adds : Adds old mid (on_disk acts)
  pub goes : IsHonest (acts ++ before.history)
      → Goes A before profile book limits end acts mid new ⊎ Collision before.logs
