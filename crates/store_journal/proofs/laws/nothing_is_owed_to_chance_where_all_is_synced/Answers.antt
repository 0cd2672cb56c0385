use Rattle.store_journal.proofs.Surviving.{settled_law}
use Rattle.store_journal.proofs.laws.nothing_is_owed_to_chance_where_all_is_synced.Goals as goal

pub returns : goal.returns
returns c = settled_law
