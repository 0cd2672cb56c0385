use Rattle.log_entries.proofs.Spelled.{all_spelled}
use Rattle.log_entries.proofs.laws.a_record_has_one_spelling.Goals as goal

pub returns-clause-bytes : goal.returns-clause-bytes
returns-clause-bytes c = λ es bytes are is. let all = all_spelled es bytes are is in all.bytes_are

pub returns-clause-fits : goal.returns-clause-fits
returns-clause-fits c = λ es bytes are is. let all = all_spelled es bytes are is in all.fit
