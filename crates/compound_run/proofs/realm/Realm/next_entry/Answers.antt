use Rattle.std.proofs.Common.{rules, ◌≡◌, sym, subst, ℕ}
use Rattle.std.specs.Prelude.{Some, None, IsSome}
use Rattle.node_tree.specs.World.{Name, name_after, kind_of}
use Rattle.node_tree.specs.Sound.{IsNextName}
use Rattle.compound_run.specs.Asking.{sight_of}
use Rattle.compound_run.proofs.Listing.{none_above, object_there}
use Rattle.compound_run.proofs.realm.Realm.next_entry.Goals as goal

pub returns-in_err-name-clause-none : goal.returns-in_err-name-clause-none
returns-in_err-name-clause-none g c is =
    let w = c.args.self.now.tree.world in
    let none : name_after w c.args.directory c.args.cookie ≡ None = search rules in
    none_above c.args.directory c.args.cookie w.names none

pub returns-clause-some : goal.returns-clause-some
returns-clause-some g c =
    let w = c.args.self.now.tree.world in
    let s = sight_of c.args.self.now in
    let name : Name = c.in_ok-name.name.now in
    let found : name_after w c.args.directory c.args.cookie ≡ Some name = search rules in
    let next : IsNextName w c.args.directory c.args.cookie name = c.in_ok-name.ensures.next in
    let number : c.child.result ≡ name.child = search rules in
    let child = object_there s c.child.result (subst (λ (k : ℕ). IsSome (kind_of w k)) (sym number) next.child) in
    record {
      name = name;
      is = found;
      by = search rules;
      numbered = number;
      child = child.0;
      there = child.1;
    }
