use Rattle.session_slots.proofs.Rebuilt.{is_restored}
use Rattle.session_slots.proofs.laws.what_is_read_out_is_restored.Goals as goal

pub returns : goal.returns
returns c = λ r readable. is_restored r readable
