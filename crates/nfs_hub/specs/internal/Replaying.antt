-- An entry of a log is replayed in a server that starts (RFC 8881, section 2.10.6.5).
use Rattle.std.specs.Prelude.{◌≡◌, ◌⊎◌, ℕ, List, Option}
use Rattle.std.specs.Prelude.{Result, Ok, Err}
use Rattle.who_book.specs.Content.{Content}
use Rattle.who_book.specs.Document.{book_from}
use Rattle.who_book.specs.declared.fault.BookFault.{BookFault}
use Rattle.nfs_hub.specs.Answer.{IsText}
use Rattle.nfs_hub.specs.declared.restart.ReplayFault.{ReplayFault}
use Rattle.nfs_hub.specs.declared.restart.ReplayFault.TheVariants.{Differs, Memory}

-- the book of a text is read, or an allocation fails, or the text is no book
abbrev pub ReadsBook : Result Content ReplayFault → Option (List ℕ) → Type 0
ReadsBook (Ok book) text = book_from text ≡ Ok book
ReadsBook (Err Memory) text = Unit {0}
ReadsBook (Err Differs) text = (fault : BookFault) × (book_from text ≡ Err fault)

-- the book of logged bytes, which may be no text
abbrev pub BookGives : Result Content ReplayFault → Option (List ℕ) → Type 0
BookGives (Ok book) text = IsText text × ReadsBook (Ok book) text
BookGives (Err Memory) text = Unit {0}
BookGives (Err Differs) text = (¬ (IsText text)) ⊎ (IsText text × ReadsBook (Err Differs) text)
