use Rattle.access_guard.proofs.Remembering.{agrees_kept}
use Rattle.access_guard.proofs.laws.changes_keep_agreement.Goals as goal

pub returns : goal.returns
returns c = agrees_kept
