-- A tree beside the guard of its access control lists, and the book of its callers. It doesn't have the remembered
-- summaries, but it has the limit on their number.
use Rattle.std.specs.Prelude.{ℕ, []}
use Rattle.who_book.specs.Content.{Content}
use Rattle.node_tree.specs.World.{World}
use Rattle.access_guard.specs.Epochs.{FIRST_EPOCH}
use Rattle.access_guard.specs.Log.{Log}

pub record Guarded : Type 0 where
  pub world : World
  pub book : Content
  -- the epoch of the book, counted from 1
  pub epoch : ℕ
  pub log : Log
  -- the most summaries that may be remembered
  pub capacity : ℕ

-- a tree and its first book, beside a guard that has decided nothing yet
abbrev pub unjudged : World → Content → ℕ → Guarded
unjudged w book capacity = record {
  world = w;
  book = book;
  epoch = FIRST_EPOCH;
  log = record { held = []; trail = []; total = 0 };
  capacity = capacity;
}
