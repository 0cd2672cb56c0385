use Rattle.std.proofs.Common.{rules}
use Rattle.std.proofs.lemmas.Iterator.Search.{find_from_yields_List}
use Rattle.std.proofs.lemmas.Iterator.Splits.{YieldsList-from_lines}
use borrow.Author.Tests.{tests}
use Rattle.server_metrics.specs.Reading.{has_series}
use Rattle.server_metrics.proofs.reading.line_of.Goals as goal

pub returns : goal.returns
returns c =
    find_from_yields_List (λ line. has_series line c.args.series.now) _ _ c.find.result c.find.ensures.ran
    (YieldsList-from_lines c.args.text.now c.lines.ensures.rest) (λ x b q k. search (rules, tests))
