use Rattle.log_entries.proofs.Again.{none_left, one_more, refused}
use Rattle.log_entries.proofs.laws.entries_are_read_in_turn.Goals as goal

pub returns-clause-end : goal.returns-clause-end
returns-clause-end c = none_left

pub returns-clause-more : goal.returns-clause-more
returns-clause-more c = one_more

pub returns-clause-refused : goal.returns-clause-refused
returns-clause-refused c = refused
