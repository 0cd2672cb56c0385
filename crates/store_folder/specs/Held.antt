-- An open folder of a store: CURRENT, its two files, its spare, and the system's error of a failed call.
use Rattle.std.specs.Prelude.{◌≡◌, ◌≢◌, ◌⊎◌, ◌==◌, ◌≤◌, ◌<◌, ◌+◌, ◌-◌, ℕ, nat_lt, if◌then◌else◌, Bool, true, false}
use Rattle.std.specs.Prelude.{[], length, Option, Some, None, Result, Ok, Err}
use Rattle.std.specs.declared.fs.File.{File}
use Rattle.std.specs.declared.io.Error.{Error}
use Rattle.std.specs.declared.io.ErrorKind.{ErrorKind}
use Rattle.std.specs.declared.io.ErrorKind.TheVariants.{OutOfMemory, FileTooLarge, ReadOnlyFilesystem}
use Rattle.std.specs.IoError.{error_kind}
use Rattle.store_journal.specs.declared.checksum.Identity.{Identity}
use Rattle.store_journal.specs.declared.disk.LoadFault.{LoadFault}
use Rattle.store_journal.specs.declared.disk.LoadFault.TheVariants.{Failed as NotLoaded, Memory as NoMemory}
use Rattle.store_journal.specs.declared.disk.Slot.{Slot}
use Rattle.store_journal.specs.declared.disk.Slot.TheVariants.{A, B}
use Rattle.store_journal.specs.Disk.{Bytes, Act, Read, Unread, Found, Unfound, Wrote, Tore, Synced, Unsynced, Turned}
use Rattle.store_journal.specs.Disk.{Unturned}
use Rattle.store_folder.specs.declared.fault.Failure.{Failure}
use Rattle.store_folder.specs.declared.fault.Operation.{Operation}
use Rattle.store_folder.specs.declared.fault.Operation.TheVariants.{Read as ToRead, Write as ToWrite}
use Rattle.store_folder.specs.declared.fault.Operation.TheVariants.{Sync as ToSync, Rename as ToRename}
use Rattle.store_folder.specs.declared.fault.Part.{Part}
use Rattle.store_folder.specs.declared.fault.Part.TheVariants.{Folder, Current as TheCurrent, Fresh as TheFresh}
use Rattle.store_folder.specs.declared.fault.Part.TheVariants.{Spare as TheSpare}
use Rattle.store_folder.specs.declared.folder.StoreFolder.{StoreFolder}
use Rattle.store_folder.specs.declared.held.Held.{Held}
use Rattle.store_folder.specs.declared.judging.Kind.{Kind}
use Rattle.store_folder.specs.declared.judging.Kind.TheVariants.{New, Kept}
use Rattle.store_folder.specs.declared.making.Opened.{Opened}
use Rattle.store_folder.specs.declared.store_file.StoreFile.{StoreFile}
use Rattle.store_folder.specs.declared.turning.SmallFile.{SmallFile}
use Rattle.store_folder.specs.Faults.{part_in}

-- ---- one file

abbrev pub opened_file : Opened → ℕ → StoreFile
opened_file o limit = record { file = Some o.file; len = o.found.len; synced = o.found.len; limit = limit }

abbrev pub new_file : File → ℕ → StoreFile
new_file file limit = record { file = Some file; len = 0; synced = 0; limit = limit }

abbrev pub no_file : StoreFile
no_file = record { file = None; len = 0; synced = 0; limit = 0 }

-- a load returns as many bytes as the file is known to have, and none for a missing file
abbrev pub IsFound : StoreFile → Bytes → Type 0
IsFound x bytes = (x.file ≡ None → bytes ≡ []) × (x.file ≢ None → length bytes ≡ x.len)

abbrev pub later_of : ℕ → ℕ → ℕ
later_of n m = if nat_lt n m then m else n

-- `count` bytes were written at `at`. They end within the limit, and the file is no shorter than their end.
abbrev pub IsWritten : ℕ → ℕ → StoreFile → StoreFile → Type 0
IsWritten at count old new =
    (at + count ≤ old.limit) × (new ≡ record old { len = later_of old.len (at + count) })

-- how many more bytes the file may have
abbrev pub room : StoreFile → ℕ
room x = x.limit - x.len

-- as many bytes as the file has, but at least 64 KiB and at most 4 MiB
abbrev pub wanted : ℕ → ℕ
wanted len = if nat_lt len 65536 then 65536 else (if nat_lt 4194304 len then 4194304 else len)

-- how many zero bytes are preallocated
abbrev pub ahead : StoreFile → ℕ
ahead x = if nat_lt (room x) (wanted x.len) then room x else wanted x.len

-- A sync changes only the length of a file. It grows if it has grown since the last sync, by at most `ahead` bytes.
-- Then all its bytes are synced.
pub record IsSynced (old new : StoreFile) : Type 0 where
  pub stays : new ≡ record old { len = new.len; synced = new.synced }
  pub enough : old.len ≤ old.synced → new.len ≡ old.len
  pub made : old.synced < old.len → (old.len ≤ new.len) × (new.len ≤ old.len + ahead old)
  pub all : old.file ≢ None → new.synced ≡ new.len

-- ---- a call of the disk

abbrev pub file_in : Slot → Held → StoreFile
file_in A h = h.a
file_in B h = h.b

abbrev pub with_file : Slot → StoreFile → Held → Held
with_file A x h = record h { a = x }
with_file B x h = record h { b = x }

-- a call on this part failed: the system's error is kept, and all else is unchanged
pub record HasFailed (part : Part) (operation : Operation) (old new : Held) : Type 0 where
  pub failure : Failure
  pub part_is : failure.part ≡ part
  pub operation_is : failure.operation ≡ operation
  pub kept : new ≡ record old { failure = Some failure }

-- CURRENT is read if and only if it exists, and has as many bytes as it is known to have
abbrev pub IsReadAs : Option SmallFile → Option Bytes → Type 0
IsReadAs None found = found ≡ None
IsReadAs (Some file) None = ⊥
IsReadAs (Some file) (Some bytes) = length bytes ≡ file.len

abbrev pub has_length : ℕ → SmallFile → Bool
has_length n spare = spare.len == n

-- the spare, if it has `n` bytes
abbrev pub fitting : ℕ → Option SmallFile → Option SmallFile
fitting n None = None
fitting n (Some spare) = if has_length n spare then Some spare else None

-- a small file exists and has `n` bytes; or, below, it has them if it exists
abbrev pub IsOf : ℕ → Option SmallFile → Type 0
IsOf n None = ⊥
IsOf n (Some file) = file.len ≡ n

abbrev pub IsIfThere : ℕ → Option SmallFile → Type 0
IsIfThere n None = Unit {0}
IsIfThere n (Some file) = file.len ≡ n

abbrev pub without_spare : Held → Held
without_spare h = record h { spare = None }

-- why `n` bytes can't become CURRENT: the folder was opened to be read, or a file of `n` bytes would pass the limit
abbrev pub bar_of : ℕ → Held → Option ErrorKind
bar_of n h = if h.may_write then (if nat_lt h.limit n then Some FileTooLarge else None) else Some ReadOnlyFilesystem

-- CURRENT was replaced by a file with these bytes. The next spare has the same length, if any.
pub record IsTurned (bytes : Bytes) (old new : Held) : Type 0 where
  pub allowed : bar_of (length bytes) old ≡ None
  pub stays : new ≡ record old { current = new.current; spare = new.spare }
  pub there : IsOf (length bytes) new.current
  pub spare : IsIfThere (length bytes) new.spare

-- The spare wasn't filled, if it has `n` bytes; else a new file wasn't made. Or the rename failed.
abbrev pub PutFails : ℕ → Held → Failure → Type 0
PutFails n old f =
    ((fitting n old.spare ≢ None) × (f.part ≡ TheSpare))
    ⊎ (((fitting n old.spare ≡ None) × (f.part ≡ TheFresh)) ⊎ ((f.part ≡ TheCurrent) × (f.operation ≡ ToRename)))

abbrev pub PuttingGives : ℕ → Held → Result SmallFile Failure → Held → Type 0
PuttingGives n old (Ok file) new = (file.len ≡ n) × (new ≡ without_spare old)
PuttingGives n old (Err failure) new = PutFails n old failure × (new ≡ without_spare old)

-- CURRENT wasn't replaced. If `bar_of` forbids it nothing was tried. Else it failed before the folder's sync or at
-- it. The spare, if any, isn't held any more.
abbrev pub NotReplaced : ℕ → Held → Failure → Held → Type 0
NotReplaced n old f new =
    ((bar_of n old ≡ Some (error_kind f.error)) × (f.part ≡ TheCurrent) × (f.operation ≡ ToWrite) × (new ≡ old))
    ⊎ ((bar_of n old ≡ None) × (PutFails n old f ⊎ ((f.part ≡ Folder) × (f.operation ≡ ToSync)))
    × (new ≡ without_spare old))

pub record HasNotTurned (n : ℕ) (old new : Held) : Type 0 where
  pub failure : Failure
  pub mid : Held
  pub unturned : NotReplaced n old failure mid
  pub kept : new ≡ record mid { failure = Some failure }

-- How each act changes an open folder. A load whose allocation fails is no failure of the system.
abbrev pub Keeps : Held → Act → Held → Type 0
Keeps old (Read found) new = IsReadAs old.current found × (new ≡ old)
Keeps old Unread new = (new ≡ old) ⊎ HasFailed TheCurrent ToRead old new
Keeps old (Found slot bytes) new = IsFound (file_in slot old) bytes × (new ≡ old)
Keeps old (Unfound slot) new = (new ≡ old) ⊎ HasFailed (part_in slot) ToRead old new
Keeps old (Wrote slot at bytes) new =
    (old.may_write ≡ true) × IsWritten at (length bytes) (file_in slot old) (file_in slot new)
    × (new ≡ with_file slot (file_in slot new) old)
Keeps old (Tore slot at bytes) new = HasFailed (part_in slot) ToWrite old new
Keeps old (Synced slot) new =
    IsSynced (file_in slot old) (file_in slot new) × (new ≡ with_file slot (file_in slot new) old)
Keeps old (Unsynced slot) new = HasFailed (part_in slot) ToSync old new
Keeps old (Turned bytes) new = IsTurned bytes old new
Keeps old (Unturned bytes) new = HasNotTurned (length bytes) old new

abbrev pub KeepsIn : {R A : Type 0} → StoreFolder R A → Act → StoreFolder R A → Type 0
KeepsIn old act new = Keeps old.held act new.held × (new ≡ record old { held = new.held })

-- the system's result of a call on a file, and what the folder keeps of it
abbrev pub CallGave : Slot → Operation → Result (Unit {0}) Error → Bool → Held → Held → Type 0
CallGave slot operation (Ok done) went old new = (went ≡ true) × (new ≡ old)
CallGave slot operation (Err error) went old new =
    (went ≡ false)
    × (new ≡ record old { failure = Some (record { part = part_in slot; operation = operation; error = error }) })

-- The system's error of a load, and what the folder keeps of it. A failed allocation is a case of its own, and is no
-- failure of the system.
abbrev pub LoadingFailed : Part → Error → LoadFault → Held → Held → Type 0
LoadingFailed part error NoMemory old new = (error_kind error ≡ OutOfMemory) × (new ≡ old)
LoadingFailed part error NotLoaded old new =
    (error_kind error ≢ OutOfMemory)
    × (new ≡ record old { failure = Some (record { part = part; operation = ToRead; error = error }) })

-- a load that fails for another reason than an allocation is a failure of the system
abbrev pub IsUnloaded : Part → LoadFault → Held → Held → Type 0
IsUnloaded part NoMemory old new = new ≡ old
IsUnloaded part NotLoaded old new = HasFailed part ToRead old new

-- the system's error has been taken
abbrev pub quiet : Held → Held
quiet h = record h { failure = None }

abbrev pub without_failure : {R A : Type 0} → StoreFolder R A → StoreFolder R A
without_failure f = record f { held = quiet f.held }

-- ---- opening

-- an identity is drawn only for a new store
abbrev pub IdentityFor : Kind → Option Identity → Type 0
IdentityFor New identity = identity ≢ None
IdentityFor Kept identity = identity ≡ None

-- an open file of `len` bytes, without preallocated ones
pub record IsThere (len : ℕ) (x : StoreFile) : Type 0 where
  pub there : x.file ≢ None
  pub len_is : x.len ≡ len
  pub synced : x.synced ≡ len

-- A folder that was opened to be written. Both files are open. An identity was drawn if and only if CURRENT is
-- missing, and then both files are empty.
pub record IsOpen (h : Held) : Type 0 where
  pub first : IsThere h.a.len h.a
  pub second : IsThere h.b.len h.b
  pub written : h.may_write ≡ true
  pub known : h.identity ≡ None → h.current ≢ None
  pub drawn : h.identity ≢ None → (h.current ≡ None) × (h.a.len ≡ 0) × (h.b.len ≡ 0)
  pub silent : h.failure ≡ None

-- A folder that was opened to be read. If CURRENT exists, both files exist.
pub record IsReadable (h : Held) : Type 0 where
  pub files : h.current ≢ None → (h.a.file ≢ None) × (h.b.file ≢ None)
  pub read : h.may_write ≡ false
  pub none : h.identity ≡ None
  pub silent : h.failure ≡ None
