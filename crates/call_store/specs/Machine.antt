-- The version of the machine, whose entries a start replays.
use Rattle.std.specs.Prelude.{◌≡◌, ◌≢◌, ◌⊎◌, ℕ, []}
use Rattle.store_journal.specs.Files.{Content}

-- It changes when any definition of an effect or a result changes.
abbrev pub MACHINE : ℕ
MACHINE = 1

-- any entries are of this machine
abbrev pub IsOwn : ℕ → Content → Type 0
IsOwn machine content = (machine ≡ MACHINE) ⊎ (content.records ≡ [])

-- some entries are of another machine
abbrev pub IsForeign : ℕ → Content → Type 0
IsForeign machine content = (machine ≢ MACHINE) × (content.records ≢ [])
