use Rattle.log_entries.proofs.Again.{all_again}
use Rattle.log_entries.proofs.laws.all_that_is_written_is_read.Goals as goal

pub returns : goal.returns
returns c = all_again
