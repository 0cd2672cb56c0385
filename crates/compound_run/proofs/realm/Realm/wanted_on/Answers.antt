use Rattle.std.proofs.Common.{rules, ◌≡◌, sym, ap, ◌∙◌, subst}
use Rattle.std.specs.Prelude.{Option, Some, unwrap_or}
use Rattle.std.specs.Option.{option_map}
use Rattle.acl_list.specs.declared.entry.Kind.{Kind}
use Rattle.acl_list.specs.declared.entry.Kind.TheVariants.{File}
use Rattle.nfs_ops.specs.Views.{setattr_args_value}
use Rattle.node_tree.specs.World.{Object, object}
use Rattle.compound_run.specs.Asking.{sight_of}
use Rattle.compound_run.specs.Operations.Setattr.{sent_by}
use Rattle.compound_run.specs.Sight.{kind_at}
use Rattle.compound_run.specs.Views.{IsWanted}
use Rattle.compound_run.proofs.realm.Realm.wanted_on.Goals as goal

pub returns-clause-wanted : goal.returns-clause-wanted
returns-clause-wanted g c =
    let there : object c.args.self.now.tree.world c.args.number ≡ Some c.in-Some.node.now = search rules in
    let same : c.kind.result ≡ kind_at (sight_of c.args.self.now) c.args.number = c.kind.ensures ∙ ap (λ (o : Option Object). unwrap_or (option_map (λ o. o.kind) o) File) (sym there) in
    subst (λ (k : Kind). IsWanted (sent_by c.args.times c.args.self.now.tree.book (setattr_args_value c.args.args.now) k) c.wanted.result) same c.wanted.ensures.wanted
