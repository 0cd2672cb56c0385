-- The parts of an ACE, without the place of its principal in memory.
use Rattle.nfs_client.specs.Entries.{EntryLine}
use Rattle.nfs_client.specs.declared.entry_text.EntryText.{EntryText}

abbrev pub entry_line : EntryText → EntryLine
entry_line e = record { kind = e.kind; flags = e.flags; mask = e.mask; who = e.who.now }
