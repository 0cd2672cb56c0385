-- Room is preallocated only in a file that was written to.
use Rattle.std.specs.Prelude.{◌≡◌, false, List, [], ◌∷◌}
use Rattle.store_journal.specs.declared.disk.Slot.{Slot}
use Rattle.store_journal.specs.Disk.{Act, on_disk}
use Rattle.store_folder.specs.declared.held.Held.{Held}
use Rattle.store_folder.specs.Held.{IsThere, Keeps, file_in}

-- these acts, the newest first, changed one folder into another
abbrev pub Did : List Act → Held → Held → Type 0
Did [] old new = new ≡ old
Did (act ∷ acts) old new = (mid : Held) × Did acts old mid × Keeps mid act new

-- A file that these acts didn't write to keeps its length. Preallocation therefore never adds bytes to a file that the
-- journal takes for empty (`touched` of `on_disk`).
abbrev pub RoomLaw : Type 0
RoomLaw = (s : Slot) (acts : List Act) (old new : Held) → IsThere (file_in s old).len (file_in s old) → Did acts old new
    → (on_disk s acts).touched ≡ false → (file_in s new).len ≡ (file_in s old).len
