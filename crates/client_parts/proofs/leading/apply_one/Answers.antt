use Rattle.client_parts.specs.Forms.{written_value}
use Rattle.client_parts.proofs.leading.apply_one.Goals as goal

pub returns-in-Ok-apply-clause-ok : goal.returns-in-Ok-apply-clause-ok
returns-in-Ok-apply-clause-ok g c = (written_value c.in-Ok.change, c.in-Ok.ensures, c.in-Ok-apply.ensures.ok)
