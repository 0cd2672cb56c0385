use Rattle.compound_laws.proofs.EntriesExactly.{gives_exactly}
use Rattle.compound_laws.proofs.exactness.readdir_gives_exactly.Goals as goal

pub returns : goal.returns
returns c = gives_exactly
