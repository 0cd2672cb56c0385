use Rattle.compound_laws.proofs.EntriesExactly.{readdir_refuses, readdir_is_refused}
use Rattle.compound_laws.proofs.exactness.readdir_is_refused_exactly.Goals as goal

pub returns : goal.returns
returns k c h v r = (readdir_refuses c h v r, readdir_is_refused c h v r)
