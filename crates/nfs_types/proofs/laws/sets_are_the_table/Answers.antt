use Rattle.nfs_types.proofs.Tables.{all_are, standard_are, settable_are}
use Rattle.nfs_types.proofs.laws.sets_are_the_table.Goals as goal

pub returns-clause-all : goal.returns-clause-all
returns-clause-all c = all_are

pub returns-clause-standard : goal.returns-clause-standard
returns-clause-standard c = standard_are

pub returns-clause-settable : goal.returns-clause-settable
returns-clause-settable c = settable_are
