-- The stored content represents a server: after a checkpoint, after records, and after a start.
use Rattle.std.specs.Prelude.{◌≡◌, ◌≤◌, true, List, [], ◌∷◌, ◌++◌, Some}
use Rattle.store_journal.specs.Disk.{Bytes}
use Rattle.store_journal.specs.Files.{Content}
use Rattle.checkpoint.specs.Kept.{Kept}
use Rattle.checkpoint.specs.Writing.{KeepsAll}
use Rattle.compound_run.specs.Covering.{Covers}
use Rattle.compound_run.specs.State.{State}
use Rattle.nfs_hub.specs.Answer.{Served, started}
use Rattle.hub_laws.specs.Kept.{Logs}
use Rattle.call_store.specs.Representing.{Restores, ReplaysTo, Represents}

-- with one more record
abbrev pub with_bytes : Bytes → Content → Content
with_bytes bytes content = record { parts = content.parts; records = content.records ++ bytes ∷ [] }

-- a checkpoint of these parts, and no record
abbrev pub checkpoint_of : List Bytes → Content
checkpoint_of parts = record { parts = parts; records = [] }

-- **Two starts from the same content replay to states that are alike**: each covers the other. The sequence IDs of the
-- checkpoint have 32 bits.
abbrev pub TwiceLaw : Type 0
TwiceLaw =
    (content : Content) (q r : State) → ((base : State) → Restores content.parts base → Covers base base)
    → ReplaysTo content q → ReplaysTo content r → Covers r q

-- **A record of what was logged extends the store.** The content then represents the server after it.
abbrev pub RecordLaw : Type 0
RecordLaw =
    (content : Content) (bytes : Bytes) (old new : Served) → Represents content old.state → Logs [] old new
    → new.log ≡ Some bytes → Represents (with_bytes bytes content) new.state

-- If nothing was logged, the content represents the server after it too.
abbrev pub NothingLaw : Type 0
NothingLaw =
    (content : Content) (old new : Served) → Represents content old.state → Logs [] old new → new.log ≡ Some []
    → Represents content new.state

-- A checkpoint of this server covers it. Its sessions are persistent: they outlive a restart. Its book has an epoch.
pub record IsLasting (s : State) : Type 0 where
  pub lasting : s.realm.lasting ≡ true
  pub epoch : 1 ≤ s.settings.epoch

-- **A checkpoint of a server represents it.**
abbrev pub CheckpointLaw : Type 0
CheckpointLaw =
    (parts : List Bytes) (kept : Kept) (s : State) → KeepsAll parts kept s → IsLasting s
    → Represents (checkpoint_of parts) s

-- **A started server covers the one before, and the content represents the started server.**
abbrev pub StartLaw : Type 0
StartLaw =
    (content : Content) (s q : State) → Represents content s → ReplaysTo content q
    → Covers (started q).state s × Represents content (started q).state

-- **A checkpoint of a started server covers it.**
abbrev pub LastsLaw : Type 0
LastsLaw = (content : Content) (q : State) → ReplaysTo content q → IsLasting (started q).state
