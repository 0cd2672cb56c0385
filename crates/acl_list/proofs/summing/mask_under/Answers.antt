use Rattle.acl_list.proofs.Bits.{none_under, all_under}
use Rattle.acl_list.proofs.summing.mask_under.Goals as goal

pub returns-then-entry-flag-eq0 : goal.returns-then-entry-flag-eq0
returns-then-entry-flag-eq0 c place e bit = none_under _ _ _ place bit e c.if-entry-flag-eq0.true

pub returns-else-entry-flag-eq0 : goal.returns-else-entry-flag-eq0
returns-else-entry-flag-eq0 c place e bit = all_under _ _ _ place bit e c.if-entry-flag-eq0.false
