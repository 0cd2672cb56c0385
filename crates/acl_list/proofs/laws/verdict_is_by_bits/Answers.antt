use Rattle.acl_list.proofs.Verdicting.{verdict_iff}
use Rattle.acl_list.proofs.laws.verdict_is_by_bits.Goals as goal

pub returns : goal.returns
returns c = verdict_iff
