-- A start reads CURRENT and the file that it names.
use Rattle.std.specs.Prelude.{◌≡◌, ◌≢◌, ◌⊎◌, ◌+◌, ℕ, List, [], length, Option, Some, None, Ok, Err}
use Rattle.store_journal.specs.declared.current.Current.{Current}
use Rattle.store_journal.specs.declared.disk.Slot.TheVariants.{A, B}
use Rattle.store_journal.specs.declared.fault.CurrentFault.{CurrentFault}
use Rattle.store_journal.specs.declared.fault.CurrentFault.TheVariants.{Version as Another, Corrupt as Broken}
use Rattle.store_journal.specs.declared.fault.OpenFault.{OpenFault}
use Rattle.store_journal.specs.declared.fault.OpenFault.TheVariants.{Failed, Version, Corrupt, Memory}
use Rattle.store_journal.specs.declared.writing.Position.{Position}
use Rattle.store_journal.specs.Current.{current_in}
use Rattle.store_journal.specs.Disk.{Bytes, Read, Unread, Found, Unfound}
use Rattle.store_journal.specs.Files.{Content, contents, LastFrame, IsRotten}
use Rattle.store_journal.specs.Frames.{Frame, start, place_after, Holds}
use Rattle.store_journal.specs.Passage.{Passage, Once, Twice, Thrice}

-- ---- which file is active

-- CURRENT has this content, and the file that it names has these bytes. It isn't read if no checkpoint was finished
-- yet.
pub record NamesFile {D : Type 0} (p : Passage D) (c : Current) (bytes : Bytes) : Type 0 where
  pub found : Bytes
  pub states : current_in found ≡ Ok c
  pub file : ((c.generation ≡ 0) × Once p (Read (Some found)) × (bytes ≡ []))
      ⊎ ((c.generation ≢ 0) × Twice p (Read (Some found)) (Found c.slot bytes))

-- CURRENT is missing and both files are empty. Or it names a file.
abbrev pub LoadGives : {D : Type 0} → Passage D → Option Current → Bytes → Type 0
LoadGives p None bytes = (bytes ≡ []) × Thrice p (Read None) (Found A []) (Found B [])
LoadGives p (Some c) bytes = NamesFile p c bytes

-- CURRENT was read, and can't be used
pub record Says {D : Type 0} (p : Passage D) (fault : CurrentFault) : Type 0 where
  pub found : Bytes
  pub is : current_in found ≡ Err fault
  pub read : Once p (Read (Some found))

-- CURRENT is missing, and a file isn't empty
abbrev pub Orphaned : {D : Type 0} → Passage D → Type 0
Orphaned p =
    ((a : Bytes) × (a ≢ []) × Twice p (Read None) (Found A a))
    ⊎ ((b : Bytes) × (b ≢ []) × Thrice p (Read None) (Found A []) (Found B b))

-- CURRENT wasn't read. Or the file that it names wasn't read. Or CURRENT is missing, and a file wasn't read.
abbrev pub LeftUnread : {D : Type 0} → Passage D → Type 0
LeftUnread p =
    Once p Unread
    ⊎ (((found : Bytes) × (c : Current) × (current_in found ≡ Ok c) × Twice p (Read (Some found)) (Unfound c.slot))
    ⊎ (Twice p (Read None) (Unfound A) ⊎ Thrice p (Read None) (Found A []) (Unfound B)))

abbrev pub LoadFails : {D : Type 0} → Passage D → OpenFault → Type 0
LoadFails p Failed = LeftUnread p
LoadFails p Version = Says p Another
LoadFails p Corrupt = Says p Broken ⊎ Orphaned p
LoadFails p Memory = LeftUnread p

-- ---- its content

-- The file has this content, and no durable frame is corrupt or missing. The next frame goes to this position. The
-- last frame has these bytes, at offset `at`.
pub record Chooses (c : Current) (file : Bytes) (content : Option Content) (position : Position) (at : ℕ)
    (bytes : Bytes) : Type 0 where
  pub frames : List Frame
  pub rest : Bytes
  pub holds : Holds c.identity (start c.generation) file frames rest
  pub content_is : contents frames ≡ content
  pub sound : IsRotten c.identity (place_after c.identity (start c.generation) frames) rest → ⊥
  pub place_is : position.place ≡ place_after c.identity (start c.generation) frames
  pub last : LastFrame c.identity (start c.generation) file frames rest at bytes
  pub at_is : position.at ≡ at + length bytes

-- The checkpoint isn't complete, or a durable frame is corrupt or missing.
pub record IsCorrupt (c : Current) (file : Bytes) : Type 0 where
  pub frames : List Frame
  pub rest : Bytes
  pub holds : Holds c.identity (start c.generation) file frames rest
  pub wrong : (contents frames ≡ None)
      ⊎ IsRotten c.identity (place_after c.identity (start c.generation) frames) rest

abbrev pub RefusedFor : Current → Bytes → OpenFault → Type 0
RefusedFor c file Failed = ⊥
RefusedFor c file Version = ⊥
RefusedFor c file Corrupt = IsCorrupt c file
RefusedFor c file Memory = Unit {0}
