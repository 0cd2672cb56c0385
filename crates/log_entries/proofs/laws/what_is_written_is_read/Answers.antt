use Rattle.log_entries.proofs.Again.{written_again}
use Rattle.log_entries.proofs.laws.what_is_written_is_read.Goals as goal

pub returns : goal.returns
returns c = written_again
