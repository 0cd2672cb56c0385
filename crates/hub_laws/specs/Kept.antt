-- The log of a hub is replayed after a restart (RFC 8881, section 2.10.6.5).
use Rattle.std.specs.Prelude.{◌≡◌, ℕ, List, [], ◌∷◌, ◌++◌, Some}
use Rattle.std.specs.List.{flat_map, AllByRecursion}
use Rattle.log_entries.specs.Entries.{Entry, IsEntry, entry_bytes}
use Rattle.compound_run.specs.Covering.{Covers}
use Rattle.compound_run.specs.State.{State}
use Rattle.nfs_hub.specs.Answer.{Served}
use Rattle.nfs_hub.specs.Machine.{Event, Connect, Piece, Take, Close, Reload, ClientExpired, BeginLog}
use Rattle.nfs_hub.specs.Replaying.{Replays}

-- entries are replayed, one after the other
abbrev pub ReplaysAll : List Entry → State → State → Type 0
ReplaysAll [] old new = new ≡ old
ReplaysAll (entry ∷ entries) old new = (mid : State) × Replays entry old mid × ReplaysAll entries mid new

-- Each state that covers the first server's can replay these entries. Every state that they replay to covers
-- the second server's.
pub record ReplayCovers (entries : List Entry) (old new : State) : Type 0 where
  pub some : (q : State) → Covers q old → (after : State) × ReplaysAll entries q after
  pub each : (q after : State) → Covers q old → ReplaysAll entries q after → Covers after new

-- From one server to the next these entries are logged, after the earlier log.
pub record Logs (before : List ℕ) (old new : Served) : Type 0 where
  pub entries : List Entry
  pub fit : AllByRecursion IsEntry entries
  pub log : new.log ≡ Some (before ++ flat_map entry_bytes entries)
  pub replay_covers : ReplayCovers entries old.state new.state

-- the event doesn't begin the log anew
abbrev pub log_goes_on : Event → Type 0
log_goes_on Connect = Unit {0}
log_goes_on (Piece id bytes now) = Unit {0}
log_goes_on (Take id n) = Unit {0}
log_goes_on (Close id) = Unit {0}
log_goes_on (Reload book) = Unit {0}
log_goes_on (ClientExpired client) = Unit {0}
log_goes_on BeginLog = ⊥
