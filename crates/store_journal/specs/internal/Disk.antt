-- Two files and CURRENT on a disk: the acts on them, and what a crash may leave.
use Rattle.std.specs.Prelude.{◌≡◌, List, ◌∷◌}
use Rattle.std.specs.Prelude.{Option, Some, None}
use Rattle.store_journal.specs.Disk.{Act}

-- the call adds its act in front of the list of acts, the newest first, if the list is still known
abbrev pub Adds : Option (List Act) → Act → Option (List Act) → Type 0
Adds None act None = Unit {0}
Adds None act (Some new) = ⊥
Adds (Some old) act None = Unit {0}
Adds (Some old) act (Some new) = new ≡ act ∷ old
