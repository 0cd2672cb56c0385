use Rattle.std.proofs.Common.{rules, ◌≡◌}
use Rattle.std.specs.Prelude.{Some}
use Rattle.node_tree.specs.World.{object}
use Rattle.compound_run.proofs.realm.Realm.facts_for.Goals as goal

pub returns-clause-facts_are : goal.returns-clause-facts_are
returns-clause-facts_are g c =
    let there : object c.args.self.now.tree.world c.args.number ≡ Some c.in_ok-node.node.now = search rules in
    rw there (search rules)
