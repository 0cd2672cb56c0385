use Rattle.std.proofs.Common.{◌≡◌, ℕ, false, ◌++◌, drop}
use Rattle.std.specs.Map.{values_of}
use Rattle.who_book.specs.Document.{naturals, has_duplicates}
use Rattle.who_book.specs.Indexes.{rows_in, name_in}
use Rattle.who_book.specs.Names.{name_at}
use Rattle.who_book.specs.Outlines.{rows_of}
use Rattle.who_book.proofs.names.Names.build.Given as goal

abbrev pub invariant-loop-row : goal.invariant-loop-row
invariant-loop-row l = record {
  rest : naturals (rows_of l.rows) ≡ rows_in l.numbers.entries ++ naturals (rows_of (drop l.row-index l.rows));
  both_ways : (n : ℕ) → name_in l.names n ≡ name_at n (rows_in l.numbers.entries);
  apart : has_duplicates (values_of (rows_in l.numbers.entries)) ≡ false;
}
