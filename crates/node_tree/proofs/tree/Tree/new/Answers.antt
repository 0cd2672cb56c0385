use Rattle.std.proofs.Common.{refl}
use Rattle.node_tree.proofs.Starting.{IsSound-alone}
use Rattle.node_tree.proofs.tree.Tree.new.Goals as goal

pub invariant_of-result : goal.invariant_of-result
invariant_of-result g c =
    rw (c.in_ok-new.ensures, c.in_ok-made.ensures, c.first_access.ensures, c.from_start-at.ensures) (IsSound-alone c.args.limits c.profile-profile.ensures.allowed _ refl c.new.ensures.items c.requires refl refl)

pub returns : goal.returns
returns g c = rw (c.in_ok-new.ensures, c.in_ok-made.ensures, c.first_access.ensures, c.from_start-at.ensures, c.new.ensures.items)
