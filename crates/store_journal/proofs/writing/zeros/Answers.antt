use Rattle.store_journal.proofs.Prefixes.{zeros_are}
use Rattle.store_journal.proofs.writing.zeros.Goals as goal

pub returns : goal.returns
returns c = zeros_are c.args.count c.requires
