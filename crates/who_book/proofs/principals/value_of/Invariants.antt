use Rattle.std.proofs.Common.{◌≡◌, ◌<◌, drop}
use Rattle.std.specs.Str.{all_ascii_digits}
use Rattle.who_book.specs.Spelling.{value_after}
use Rattle.who_book.proofs.principals.value_of.Given as goal

abbrev pub invariant-loop-digit : goal.invariant-loop-digit
invariant-loop-digit l = record {
  digits : all_ascii_digits l.digits ≡ all_ascii_digits (drop l.digit-index l.digits);
  value : value_after 0 l.digits ≡ value_after l.value (drop l.digit-index l.digits);
  small : l.value < 4294967296;
}
