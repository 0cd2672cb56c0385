use Rattle.std.proofs.Common.{◌≡◌, true, sym, ap, ◌∙◌}
use Rattle.access_rows.specs.declared.demand.Demand.TheVariants.{Bits, Removal, ServerTime}
use Rattle.node_tree.specs.Judged.{judged_of}
use Rattle.access_guard.specs.Asker.{member_of}
use Rattle.access_guard.specs.Lists.{sum_at}
use Rattle.access_guard.specs.Memory.{is_silent_grant, is_silent_removal, is_silent_time, grants_silently}
use Rattle.access_guard.proofs.SilentGrants.{grants_granted, grants_silent}
use Rattle.access_guard.proofs.memory.Summaries.is_silent_grant.Goals as goal

pub returns-in-Bits-clause-granted : goal.returns-in-Bits-clause-granted
returns-in-Bits-clause-granted g c h =
    let demand = Bits c.in-Bits.object c.in-Bits.mask in
    let silent : grants_silently (judged_of c.args.tree.now) (member_of c.args.asker.now) demand ≡ true = ap (λ s. is_silent_grant s c.in-Bits.mask) (sym c.sum_at.ensures.sum) ∙ sym c.is_silent_grant.ensures.exact ∙ h in
    rw c.in-Bits.is (grants_granted (judged_of c.args.tree.now) (member_of c.args.asker.now) 0 demand c.is_silent_grant.ensures.fits silent)

pub returns-in-Bits-clause-silent : goal.returns-in-Bits-clause-silent
returns-in-Bits-clause-silent g c h op =
    let demand = Bits c.in-Bits.object c.in-Bits.mask in
    let silent : grants_silently (judged_of c.args.tree.now) (member_of c.args.asker.now) demand ≡ true = ap (λ s. is_silent_grant s c.in-Bits.mask) (sym c.sum_at.ensures.sum) ∙ sym c.is_silent_grant.ensures.exact ∙ h in
    rw c.in-Bits.is (grants_silent (judged_of c.args.tree.now) (member_of c.args.asker.now) op demand c.is_silent_grant.ensures.fits silent)

pub returns-in-Removal-clause-granted : goal.returns-in-Removal-clause-granted
returns-in-Removal-clause-granted g c h =
    let demand = Removal c.in-Removal.parent c.in-Removal.target in
    let silent : grants_silently (judged_of c.args.tree.now) (member_of c.args.asker.now) demand ≡ true
    = (λ i. is_silent_removal (sym c.sum_at-on_target.ensures.sum i) (sym (c.sum_at-on_parent.ensures.sum ∙ ap (λ a. sum_at (judged_of c.args.tree.now) (member_of a) c.in-Removal.parent) c.sum_at-on_target.ensures.same) i)) ∙ sym c.is_silent_removal.ensures ∙ h in
    rw c.in-Removal.is (grants_granted (judged_of c.args.tree.now) (member_of c.args.asker.now) 0 demand tt silent)

pub returns-in-Removal-clause-silent : goal.returns-in-Removal-clause-silent
returns-in-Removal-clause-silent g c h op =
    let demand = Removal c.in-Removal.parent c.in-Removal.target in
    let silent : grants_silently (judged_of c.args.tree.now) (member_of c.args.asker.now) demand ≡ true
    = (λ i. is_silent_removal (sym c.sum_at-on_target.ensures.sum i) (sym (c.sum_at-on_parent.ensures.sum ∙ ap (λ a. sum_at (judged_of c.args.tree.now) (member_of a) c.in-Removal.parent) c.sum_at-on_target.ensures.same) i)) ∙ sym c.is_silent_removal.ensures ∙ h in
    rw c.in-Removal.is (grants_silent (judged_of c.args.tree.now) (member_of c.args.asker.now) op demand tt silent)

pub returns-in-ServerTime-clause-granted : goal.returns-in-ServerTime-clause-granted
returns-in-ServerTime-clause-granted g c h =
    let demand = ServerTime c.in-ServerTime.object in
    let silent : grants_silently (judged_of c.args.tree.now) (member_of c.args.asker.now) demand ≡ true = ap is_silent_time (sym c.sum_at-in-ServerTime.ensures.sum) ∙ sym c.is_silent_time.ensures ∙ h in
    rw c.in-ServerTime.is (grants_granted (judged_of c.args.tree.now) (member_of c.args.asker.now) 0 demand tt silent)

pub returns-in-ServerTime-clause-silent : goal.returns-in-ServerTime-clause-silent
returns-in-ServerTime-clause-silent g c h op =
    let demand = ServerTime c.in-ServerTime.object in
    let silent : grants_silently (judged_of c.args.tree.now) (member_of c.args.asker.now) demand ≡ true = ap is_silent_time (sym c.sum_at-in-ServerTime.ensures.sum) ∙ sym c.is_silent_time.ensures ∙ h in
    rw c.in-ServerTime.is (grants_silent (judged_of c.args.tree.now) (member_of c.args.asker.now) op demand tt silent)
