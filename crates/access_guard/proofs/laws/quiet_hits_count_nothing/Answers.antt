use Rattle.access_rows.specs.declared.demand.Demand.TheVariants.{Bits, Removal, ServerTime}
use Rattle.access_guard.proofs.Hits.{quiet_hits}
use Rattle.access_guard.proofs.laws.quiet_hits_count_nothing.Goals as goal

pub returns-clause-bits : goal.returns-clause-bits
returns-clause-bits c lists asker object mask old new fits = quiet_hits lists asker (Bits object mask) old new fits

pub returns-clause-removal : goal.returns-clause-removal
returns-clause-removal c lists asker parent target old new = quiet_hits lists asker (Removal parent target) old new tt

pub returns-clause-server_time : goal.returns-clause-server_time
returns-clause-server_time c lists asker object old new = quiet_hits lists asker (ServerTime object) old new tt
