-- Whether a folder has a store, a new store, or corruption.
use Rattle.std.specs.Prelude.{◌≡◌, ◌≢◌, ◌⊎◌, ◌==◌, ℕ, nat_lt, Bool, true, false, if◌then◌else◌, Option, Some, None}
use Rattle.std.specs.Prelude.{Result, Ok, Err}
use Rattle.store_folder.specs.declared.fault.Flaw.{Flaw}
use Rattle.store_folder.specs.declared.fault.Flaw.TheVariants.{Missing, NotRegular, Linked, Same, Replaced}
use Rattle.store_folder.specs.declared.fault.FolderFault.{FolderFault}
use Rattle.store_folder.specs.declared.fault.FolderFault.TheVariants.{InUse, Failed, Earlier, Corrupt, Memory}
use Rattle.store_folder.specs.declared.fault.Part.{Part}
use Rattle.store_folder.specs.declared.fault.Part.TheVariants.{Folder, Lock, Current, Fresh, Spare, A, B, Key}
use Rattle.store_folder.specs.declared.judging.Kind.{Kind}
use Rattle.store_folder.specs.declared.judging.Kind.TheVariants.{New, Kept}
use Rattle.store_folder.specs.declared.judging.Seen.{Seen}
use Rattle.store_folder.specs.declared.judging.FileStat.{FileStat}

-- ---- one part

-- a file has to be a regular one, without a second name
abbrev pub file_flaw : FileStat → Option Flaw
file_flaw t = if t.is_regular then (if nat_lt 1 t.links then Some Linked else None) else Some NotRegular

abbrev pub flaw_of : Option FileStat → Option Flaw
flaw_of None = None
flaw_of (Some t) = file_flaw t

abbrev pub is_vacant : Option FileStat → Bool
is_vacant None = true
is_vacant (Some t) = t.len == 0

abbrev pub is_same : FileStat → FileStat → Bool
is_same t u = if t.device == u.device then t.number == u.number else false

abbrev pub are_same : Option FileStat → Option FileStat → Bool
are_same None b = false
are_same (Some t) None = false
are_same (Some t) (Some u) = is_same t u

-- the opened file is the one that was examined, and is unchanged since
pub record IsAsSeen (seen found : FileStat) : Type 0 where
  pub sound : file_flaw found ≡ None
  pub same : is_same seen found ≡ true
  pub len : found.len ≡ seen.len

-- the number of bytes of a file, and 0 if it is missing
abbrev pub length_of : Option FileStat → ℕ
length_of None = 0
length_of (Some t) = t.len

-- ---- the folder

-- the metadata of a part that a store is made of
abbrev pub found_at_part : Part → Seen → Option FileStat
found_at_part Folder s = None
found_at_part Lock s = None
found_at_part Current s = s.current
found_at_part Fresh s = None
found_at_part Spare s = None
found_at_part A s = s.a
found_at_part B s = s.b
found_at_part Key s = None

-- each part that exists is a regular file with one name, and the two files are different
pub record AreSound (s : Seen) : Type 0 where
  pub current : flaw_of s.current ≡ None
  pub a : flaw_of s.a ≡ None
  pub b : flaw_of s.b ≡ None
  pub two : are_same s.a s.b ≡ false

-- A part is missing: CURRENT beside a file that isn't empty, or a file beside CURRENT.
abbrev pub IsMissing : Seen → Part → Type 0
IsMissing s Folder = ⊥
IsMissing s Lock = ⊥
IsMissing s Current = (s.current ≡ None) × ((is_vacant s.a ≡ false) ⊎ (is_vacant s.b ≡ false))
IsMissing s Fresh = ⊥
IsMissing s Spare = ⊥
IsMissing s A = (s.current ≢ None) × (s.a ≡ None)
IsMissing s B = (s.current ≢ None) × (s.b ≡ None)
IsMissing s Key = ⊥

-- this flaw is in this part
abbrev pub HasFlaw : Seen → Part → Flaw → Type 0
HasFlaw s part Missing = IsMissing s part
HasFlaw s part NotRegular = flaw_of (found_at_part part s) ≡ Some NotRegular
HasFlaw s part Linked = flaw_of (found_at_part part s) ≡ Some Linked
HasFlaw s part Same = (part ≡ B) × (are_same s.a s.b ≡ true)
HasFlaw s part Replaced = ⊥

abbrev pub LinkingGives : Seen → Result (Unit {0}) FolderFault → Type 0
LinkingGives s (Ok done) = AreSound s
LinkingGives s (Err InUse) = ⊥
LinkingGives s (Err (Failed failure)) = ⊥
LinkingGives s (Err Earlier) = ⊥
LinkingGives s (Err (Corrupt part flaw)) = (flaw ≢ Missing) × HasFlaw s part flaw
LinkingGives s (Err Memory) = ⊥

-- The folder is a store, or a new one, if and only if nothing is wrong.
abbrev pub JudgingGives : Seen → Result Kind FolderFault → Type 0
JudgingGives s (Ok New) =
    (s.is_earlier ≡ false) × AreSound s × (s.current ≡ None) × (is_vacant s.a ≡ true) × (is_vacant s.b ≡ true)
JudgingGives s (Ok Kept) =
    (s.is_earlier ≡ false) × AreSound s × (s.current ≢ None) × (s.a ≢ None) × (s.b ≢ None)
JudgingGives s (Err InUse) = ⊥
JudgingGives s (Err (Failed failure)) = ⊥
JudgingGives s (Err Earlier) = s.is_earlier ≡ true
JudgingGives s (Err (Corrupt part flaw)) = HasFlaw s part flaw
JudgingGives s (Err Memory) = ⊥
