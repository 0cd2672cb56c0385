-- A store has a checkpoint, and the calls after it. A start restores the checkpoint and runs the calls again.
use Rattle.std.specs.Prelude.{◌≡◌, true, List, [], ◌∷◌, Some}
use Rattle.store_journal.specs.Disk.{Bytes}
use Rattle.store_journal.specs.Files.{Content}
use Rattle.log_entries.specs.Entries.{Entry, entries_in}
use Rattle.checkpoint.specs.Holds.{Holds}
use Rattle.checkpoint.specs.Kept.{Kept}
use Rattle.compound_run.specs.Covering.{Covers}
use Rattle.compound_run.specs.ClientState.{opens_fit}
use Rattle.compound_run.specs.State.{State, restored}
use Rattle.nfs_hub.specs.Answer.{REMEMBERED}
use Rattle.hub_laws.specs.Kept.{ReplaysAll}

-- a server is restored from these parts of a checkpoint, and this is its state
pub record Restores (parts : List Bytes) (q : State) : Type 0 where
  pub kept : Kept
  pub holds : Holds parts kept
  pub fits : opens_fit kept.world kept.clients ≡ true
  pub state_is : q ≡ restored kept.world kept.clients kept.book REMEMBERED

-- records are replayed one after the other; each consists of entries, which are replayed in their order
abbrev pub ReplaysRecords : List Bytes → State → State → Type 0
ReplaysRecords [] old new = new ≡ old
ReplaysRecords (bytes ∷ records) old new =
    (entries : List Entry) × (mid : State) × (entries_in bytes ≡ Some entries) × ReplaysAll entries old mid
    × ReplaysRecords records mid new

-- A start may replay to this state: its checkpoint is restored, and then all records are replayed.
pub record ReplaysTo (content : Content) (q : State) : Type 0 where
  pub base : State
  pub restores : Restores content.parts base
  pub replays : ReplaysRecords content.records base q

-- **The content represents the state of a server**: a start can replay to a state, and each state to which it may
-- replay covers the server's.
pub record Represents (content : Content) (s : State) : Type 0 where
  pub some : (q : State) × ReplaysTo content q
  pub each : (q : State) → ReplaysTo content q → Covers q s
  -- the sequence IDs of the checkpoint have 32 bits
  pub fits : (base : State) → Restores content.parts base → Covers base base
