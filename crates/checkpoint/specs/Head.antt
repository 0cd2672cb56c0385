-- The first part of a checkpoint is its head: a profile, and the text of the server's book (RFC 4506).
use Rattle.std.specs.Prelude.{◌≡◌, ℕ, [], Option, Some, None, IfSome, Ok}
use Rattle.std.specs.Str.{IsUtf8}
use Rattle.xdr_wire.specs.Xdr.{Xdr, uint, opaque, optional, pair}
use Rattle.xdr_wire.specs.Reading.{read_at}
use Rattle.store_journal.specs.Disk.{Bytes}
use Rattle.nfs_types.specs.Limits.{Limits, limits_of}
use Rattle.who_book.specs.Content.{Content}
use Rattle.who_book.specs.Document.{book_from}

-- the number of a profile, and the text of a book, if it has one
abbrev pub head : Xdr
head = pair uint (optional (opaque 0xffff_ffff))

-- these bytes are a head, without a rest
abbrev pub IsHead : Bytes → ℕ → Option Bytes → Type 0
IsHead bytes profile text = read_at head bytes ≡ Ok ((profile, text), [])

-- the text of a book is UTF-8
abbrev pub IsText : Option Bytes → Type 0
IsText text = IfSome text IsUtf8

-- the head is of the profile with these limits, and its text is that of this book
pub record HeadStates (bytes : Bytes) (limits : Limits) (book : Content) : Type 0 where
  pub profile : ℕ
  pub text : Option Bytes
  pub whole : IsHead bytes profile text
  pub limits_are : limits_of profile ≡ Some limits
  pub is_text : IsText text
  pub book_is : book_from text ≡ Ok book

-- the head is of a profile that doesn't exist here
pub record NamesOther (bytes : Bytes) : Type 0 where
  pub profile : ℕ
  pub text : Option Bytes
  pub whole : IsHead bytes profile text
  pub other : limits_of profile ≡ None
