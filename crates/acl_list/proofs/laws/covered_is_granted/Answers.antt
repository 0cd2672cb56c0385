use Rattle.acl_list.proofs.Covering.{granted_iff_covered}
use Rattle.acl_list.proofs.laws.covered_is_granted.Goals as goal

pub returns : goal.returns
returns c = granted_iff_covered
