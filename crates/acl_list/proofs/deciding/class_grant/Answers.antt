use Rattle.std.proofs.Common.{arith}
use Rattle.acl_list.proofs.Masks.{mask_of_bits}
use Rattle.acl_list.proofs.deciding.class_grant.Goals as goal

pub returns-clause-exact : goal.returns-clause-exact
returns-clause-exact g c = mask_of_bits _ _ (omega arith) (rw c.as_slice.ensures at c.class_grant_of.ensures)
