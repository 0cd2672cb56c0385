use Rattle.std.proofs.Common.{◌≡◌, sym, ◌∙◌, true, ◌||◌}
use Rattle.std.specs.Prelude.{is_some}
use Rattle.node_tree.specs.Changes.{with_owner}
use Rattle.compound_run.proofs.realm.Realm.set_principals.Goals as goal

pub returns-then-is_either-clause-set : goal.returns-then-is_either-clause-set
returns-then-is_either-clause-set g c =
    let some : is_some c.args.owner || is_some c.args.group ≡ true = sym c.is_either.ensures ∙ c.if-is_either.true in
    let old = c.args.self.now in
    let owned = c.set_owner.ensures ∙ (λ i. record old.tree { world = with_owner old.tree.world c.args.number (c.unwrap_or-owner.ensures i) (c.unwrap_or-group.ensures i) c.args.at }) in
    rw some (λ i. record old { tree = owned i })
