-- The parts of an access control entry (ACE), with its principal by value.
use Rattle.acl_words.specs.Words.{EntryWords}
use Rattle.acl_words.specs.declared.words.Words.{Words}

abbrev pub entry_words : Words → EntryWords
entry_words w = record { kind = w.kind; flags = w.flags; mask = w.mask; who = w.who.now }
