use Rattle.std.proofs.Common.{◌≡◌, ◌<◌, drop}
use Rattle.std.specs.Str.{all_ascii_digits}
use Rattle.who_book.specs.Spelling.{value_after}
use Rattle.nfs_tool.proofs.script_line.number_in.Given as goal

abbrev pub invariant-loop-digit : goal.invariant-loop-digit
invariant-loop-digit l = record {
  digits : all_ascii_digits l.word ≡ all_ascii_digits (drop l.digit-index l.word);
  value : value_after 0 l.word ≡ value_after l.value (drop l.digit-index l.word);
  small : l.value < 4294967296;
}
