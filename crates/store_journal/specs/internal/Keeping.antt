-- Each call of a journal is defined by its result, its acts on a disk, and the journal after it.
use Rattle.store_journal.specs.declared.fault.JournalFault.{JournalFault}
use Rattle.store_journal.specs.declared.fault.JournalFault.TheVariants.{TooLong, Memory, Full, NoCheckpoint, Failed}
use Rattle.store_journal.specs.declared.journal.Journal.{Journal}
use Rattle.store_journal.specs.Keeping.{failed}

-- the journal after a frame wasn't written
abbrev pub noted : JournalFault → Journal → Journal
noted TooLong j = j
noted Memory j = j
noted Full j = j
noted NoCheckpoint j = j
noted Failed j = failed j
