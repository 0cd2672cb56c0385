use Rattle.std.proofs.Common.{ℕ}
use Rattle.acl_list.specs.Deciding.{is_true_for}
use Rattle.acl_reasons.specs.Shares.{is_decided, is_decided_before}
use Rattle.acl_reasons.proofs.Sharing.{Below}
use Rattle.acl_reasons.proofs.share.share_of.Given as goal

abbrev pub invariant-loop-place : goal.invariant-loop-place
invariant-loop-place g l =
    Below l.share.decided (is_decided (is_true_for l.owner l.group l.caller) l.list l.mask l.index) l.place
    × Below l.share.before (is_decided_before (is_true_for l.owner l.group l.caller) l.list l.mask l.index) l.place
