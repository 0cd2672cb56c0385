use Rattle.session_slots.proofs.Restored.{kept_heads}
use Rattle.session_slots.proofs.laws.calls_change_slots_alone.Goals as goal

pub returns-clause-kept : goal.returns-clause-kept
returns-clause-kept c = λ r session slot results. kept_heads r session slot results
