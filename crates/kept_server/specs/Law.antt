-- A run resumes from what was answered in the run before.
use Rattle.std.specs.Prelude.{◌≡◌, ◌⊎◌, List, ◌++◌, Option, None}
use Rattle.store_journal.specs.Disk.{Act as DiskAct}
use Rattle.store_journal.specs.Journaled.{IsIn}
use Rattle.nfs_types.specs.Limits as profiles
use Rattle.who_book.specs.Content.{Content}
use Rattle.compound_run.specs.Covering.{Covers}
use Rattle.compound_run.specs.State.{State as ServerState}
use Rattle.nfs_hub.specs.Answer.{Served}
use Rattle.nfs_hub.specs.Machine.{State}
use Rattle.nfs_streams.specs.declared.serving.AllEnd.{AllEnd}
use Rattle.nfs_streams.specs.declared.serving.Limits.{Limits}
use Rattle.nfs_streams.specs.Acts.{Act}
use Rattle.nfs_streams.specs.Keeping.{CoversReplies, disk_of}
use Rattle.nfs_streams.specs.Runs.{Runs}
use Rattle.kept_server.specs.Beginning.{Before, BeginsWith, IsBegun, RepresentsMeanwhile}
use Rattle.kept_server.specs.Kept.{Serves}

-- The result of a run that is interrupted after these of its acts, the newest first. The next run finds exactly that.
-- Its first server covers a state that has everything that was done for each reply of these acts. This holds whichever
-- profile and book the next run has.
pub record Leaves (limits : Limits) (start : State) (prefix : List Act) (history : List DiskAct) : Type 0 where
  pub s : State
  pub run : Runs limits prefix start s
  pub next : Before
  pub history_is : next.history ≡ disk_of prefix ++ history
  pub covers_replies : (t : ServerState) → IsIn t next.states → CoversReplies limits prefix start s run t
  pub goes_on : (profile : profiles.Limits) (book : Content) (first : Served) → BeginsWith next profile book first
      → (t : ServerState) × CoversReplies limits prefix start s run t × Covers first.state t

-- **Each run resumes from what was answered.** The run before may be interrupted at any act while it serves, or end.
abbrev pub GoesOnLaw : Type 0 → Type 0
GoesOnLaw A =
    (before : Before) (profile : profiles.Limits) (book : Content) (limits : Limits) (end : AllEnd)
    (acts : List DiskAct) (mid new : Option (List Act))
    (run : Serves A before profile book limits end acts mid new) (later prefix : List Act)
    → run.serves.acts ≡ later ++ prefix → Leaves limits run.serves.start prefix (acts ++ before.history)

-- The result of a start that is interrupted after these of its acts of the disk. The next run finds exactly that. Each
-- state that the disk then represents is from before, or one with which this run began. A checkpoint that was finished
-- before isn't missing.
pub record LeavesMeanwhile (before : Before) (profile : profiles.Limits) (book : Content) (prefix : List DiskAct)
    : Type 0 where
  pub next : Before
  pub history_is : next.history ≡ prefix ++ before.history
  pub each : (t : ServerState) → IsIn t next.states → IsIn t before.states ⊎ IsBegun before profile book t
  pub finished : IsIn None next.logs → IsIn None before.logs

-- **An interrupted start loses nothing.**
abbrev pub CutOffLaw : Type 0
CutOffLaw =
    (before : Before) (profile : profiles.Limits) (book : Content) (acts : List DiskAct)
    → RepresentsMeanwhile before profile book acts
    → (later prefix : List DiskAct) → acts ≡ later ++ prefix → LeavesMeanwhile before profile book prefix
