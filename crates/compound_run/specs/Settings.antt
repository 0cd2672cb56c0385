-- The settings of a server. No operation changes them.
use Rattle.std.specs.Prelude.{ℕ, ◌+◌}
use Rattle.who_book.specs.Content.{Content}
use Rattle.access_guard.specs.Epochs.{FIRST_EPOCH}

pub record Settings : Type 0 where
  -- the most summaries of access control lists that are remembered: no answer depends on it
  pub capacity : ℕ
  -- the book of names, and its epoch, counted from 1
  pub book : Content
  pub epoch : ℕ

-- a server begins with its first book
abbrev pub first_settings : ℕ → Content → Settings
first_settings capacity book = record { capacity = capacity; book = book; epoch = FIRST_EPOCH }

-- another book is loaded
abbrev pub reloaded_settings : Content → Settings → Settings
reloaded_settings book settings = record settings { book = book; epoch = settings.epoch + 1 }
