use Rattle.acl_list.proofs.OneBit.{verdict-bit}
use Rattle.acl_list.proofs.laws.bit_is_its_first_match.Goals as goal

pub returns : goal.returns
returns c = verdict-bit
