use Rattle.std.proofs.Common.{◌≡◌, ap, ◌∙◌, rules}
use Rattle.node_tree.specs.Judged.{judged_of}
use Rattle.access_guard.specs.Asker.{Asker, member_of}
use Rattle.access_guard.specs.Lists.{granted_at}
use Rattle.access_guard.proofs.guard.Guard.grants.Goals as goal

pub returns-clause-mask : goal.returns-clause-mask
returns-clause-mask g c =
    let lists = judged_of c.args.tree.now in
    let granted : c.map_or.result ≡ granted_at lists (member_of c.new.result) c.args.object = search rules in
    granted ∙ ap (λ (a : Asker). granted_at lists (member_of a) c.args.object) c.new.ensures
