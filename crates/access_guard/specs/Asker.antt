-- The caller that a decision is for.
use Rattle.std.specs.Prelude.{ℕ}
use Rattle.rpc_record.specs.Identity.{Identity}
use Rattle.who_book.specs.Content.{Content}
use Rattle.who_book.specs.Members.{member}

pub record Asker : Type 0 where
  pub book : Content
  -- the epoch of the book
  pub epoch : ℕ
  -- the caller as sent
  pub sent : Identity

-- a caller under the book of an epoch
abbrev pub asker : Content → ℕ → Identity → Asker
asker book epoch caller = record { book = book; epoch = epoch; sent = caller }

-- the caller by the book, for whom access control lists are evaluated
abbrev pub member_of : Asker → Identity
member_of a = member a.book a.sent
