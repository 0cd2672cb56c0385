use Rattle.who_book.proofs.Spelled.{strip_cases}
use Rattle.who_book.proofs.principals.strip_end.Goals as goal

pub returns : goal.returns
returns c = strip_cases c.args.text.now c.args.end.now c.strip_suffix.result c.strip_suffix.ensures.cases
