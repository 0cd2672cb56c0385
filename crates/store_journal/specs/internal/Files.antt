-- The content of a file: its frames, and in them a checkpoint and the records after it.
use Rattle.std.specs.Prelude.{◌==◌, ℕ, Bool, true, false, List, ◌++◌}
use Rattle.std.specs.Prelude.{if◌then◌else◌, Option, Some, None, Ok, Err}
use Rattle.xdr_wire.specs.Xdr.{hyper}
use Rattle.xdr_wire.specs.Reading.{Read, read_at}
use Rattle.store_journal.specs.Current.{VERSION}
use Rattle.store_journal.specs.Disk.{Bytes}
use Rattle.store_journal.specs.Frames.{Frame}
use Rattle.store_journal.specs.Files.{Content, contents, records_in}

-- the bytes begin with the version of the form and this generation
abbrev pub has_generation : ℕ → Read ℕ → Bool
has_generation generation (Ok x) = x.0 == generation
has_generation generation (Err e) = false

abbrev pub has_both : ℕ → Read ℕ → Bool
has_both generation (Ok x) = if x.0 == VERSION then has_generation generation (read_at hyper x.1) else false
has_both generation (Err e) = false

unfoldable pub begins_frames : ℕ → Bytes → Bool
begins_frames generation bytes = has_both generation (read_at hyper bytes)

-- The content of a file, while some of its frames remain to be read. It is given by the frames that were read: whether
-- the end frame was, the parts, and the records.
abbrev pub after_those : List Bytes → List Bytes → Option Content → Option Content
after_those parts records None = None
after_those parts records (Some x) = Some (record { parts = parts ++ x.parts; records = records ++ x.records })

abbrev pub joined_to : Bool → List Bytes → List Bytes → List Frame → Option Content
joined_to true parts records frames = Some (record { parts = parts; records = records ++ records_in frames })
joined_to false parts records frames = after_those parts records (contents frames)
