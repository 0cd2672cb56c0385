use Rattle.compound_laws.proofs.WrongRows.{of_lookup, of_getfh, of_remove}
use Rattle.compound_laws.proofs.exactness.wrong_rows_are_refused.Goals as goal

pub returns-clause-lookup : goal.returns-clause-lookup
returns-clause-lookup c = of_lookup

pub returns-clause-getfh : goal.returns-clause-getfh
returns-clause-getfh c = of_getfh

pub returns-clause-remove : goal.returns-clause-remove
returns-clause-remove c = of_remove
