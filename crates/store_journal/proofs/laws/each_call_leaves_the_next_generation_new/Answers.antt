use Rattle.store_journal.proofs.BegunOnce.{fresh_law}
use Rattle.store_journal.proofs.laws.each_call_leaves_the_next_generation_new.Goals as goal

pub returns : goal.returns
returns c = fresh_law
