use Rattle.node_tree.proofs.Restorable.{IsBegun-none, all_left}
use Rattle.node_tree.proofs.restoring.Restoring.begin.Goals as goal

pub invariant_of-result : goal.invariant_of-result
invariant_of-result g c =
    let t = c.if-not-next_cookie.false in
    rw c.empty.ensures (IsBegun-none c.args.limits c.profile-profile.ensures.allowed _ _ _ _ t.0 t.1 t.2 t.3 t.4 t.5 _ _ c.new.ensures.items c.new-2.ensures.empty)

pub returns-clause-fit : goal.returns-clause-fit
returns-clause-fit g c =
    let t = c.if-not-next_cookie.false in
    all_left _ _ _ _ t.0 t.1 t.2 t.3 t.4 t.5
