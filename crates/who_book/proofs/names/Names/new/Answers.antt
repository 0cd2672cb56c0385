use Rattle.who_book.proofs.Tables.{empty_indexes}
use Rattle.who_book.proofs.names.Names.new.Goals as goal

pub invariant_of-result : goal.invariant_of-result
invariant_of-result c = empty_indexes _ _ c.new.ensures.empty c.new-2.ensures.empty
