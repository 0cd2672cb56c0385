use Rattle.log_entries.proofs.Spelled.{one_spelling, read_fits}
use Rattle.log_entries.proofs.laws.an_entry_has_one_spelling.Goals as goal

pub returns-clause-bytes : goal.returns-clause-bytes
returns-clause-bytes c = one_spelling

pub returns-clause-fits : goal.returns-clause-fits
returns-clause-fits c = read_fits
