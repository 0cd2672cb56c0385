-- The valid frames from the start of a file of a journal, and the place after them.
use Rattle.std.specs.Prelude.{◌≡◌, ◌+◌, ◌≤◌, ℕ, List, length}
use Rattle.store_journal.specs.declared.current.Current.{Current}
use Rattle.store_journal.specs.declared.checksum.Identity.{Identity}
use Rattle.store_journal.specs.Disk.{Bytes}
use Rattle.store_journal.specs.Files.{is_ended}
use Rattle.store_journal.specs.Frames.{Frame, Holds, start}
use Rattle.store_folder.specs.declared.corruption.Spot.{Spot}
use Rattle.store_folder.specs.declared.corruption.FileFrames.{FileFrames}

-- the file begins with these frames, and has `s.rest` bytes after them
pub record IsFrames (id : Identity) (generation : ℕ) (file : Bytes) (s : FileFrames) : Type 0 where
  pub frames : List Frame
  pub rest : Bytes
  pub holds : Holds id (start generation) file frames rest
  pub frames_are : s.frames ≡ length frames
  pub rest_is : s.rest ≡ length rest
  pub ended_is : s.is_ended ≡ is_ended rest
  pub few : s.rest ≤ length file

-- the place after the valid frames of a file: their number, and the offset of the next byte
pub record IsSpotIn (c : Current) (file : Bytes) (spot : Spot) : Type 0 where
  pub frames : List Frame
  pub rest : Bytes
  pub holds : Holds c.identity (start c.generation) file frames rest
  pub frames_are : spot.frames ≡ length frames
  pub byte_is : spot.byte + length rest ≡ length file
