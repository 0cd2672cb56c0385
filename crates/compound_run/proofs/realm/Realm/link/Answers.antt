use Rattle.std.proofs.Common.{rules, ◌≡◌, ◌≢◌, ◌<◌, ◌≤◌, ℕ, true, false, refl, sym, ap, subst}
use Rattle.std.proofs.lemmas.Bool.{lt-ltb, le-ltb}
use Rattle.std.specs.Prelude.{[], ◌∷◌, nat_lt, Option, Some, None}
use Rattle.std.specs.Option.{option_map_or}
use Rattle.who_book.specs.Members.{member}
use Rattle.acl_list.specs.declared.entry.Kind.{Kind}
use Rattle.acl_list.specs.declared.entry.Kind.TheVariants.{File, Directory, Link}
use Rattle.acl_shape.specs.Inherited.{is_directory}
use Rattle.nfs_ops.specs.Operations.{Known}
use Rattle.nfs_ops.specs.declared.OpKind.TheVariants as kinds
use Rattle.node_tree.specs.Judged.{judged_of}
use Rattle.node_tree.specs.World.{World, kind_of, link_count}
use Rattle.access_rows.specs.Rows.{first_demands}
use Rattle.compound_run.specs.Sight.{whole}
use Rattle.compound_run.specs.Rows.{first_facts}
use Rattle.compound_run.specs.Questions.{demand_lines}
use Rattle.compound_run.specs.Meaning.{number_in, there}
use Rattle.compound_run.specs.Operations.Link.{link, is_nameable}
use Rattle.compound_run.specs.Views.{realm_of}
use Rattle.compound_run.proofs.AskedAfter.{asked_after}
use Rattle.compound_run.proofs.realm.Realm.link.Goals as goal

no_directory : (o : Option Kind) → o ≢ Some Directory → option_map_or is_directory o false ≡ false
no_directory None other = refl
no_directory (Some File) other = refl
no_directory (Some Link) other = refl
no_directory (Some Directory) other = absurd (other refl)

pub returns : goal.returns
returns g c =
    let lines = demand_lines (judged_of c.args.self.now.tree.world) (member c.args.self.now.tree.book c.args.step.context.caller.now) 11 (first_demands (Known kinds.Link c.args.args.now.name.bytes.now) (first_facts (whole (realm_of c.args.self.now)) c.args.step.handles)) in
    let linked = c.in_ok-linked.linked in
    let here : link_count c.grants_first.new.self.tree.world.names linked < c.grants_first.new.self.tree.world.limits.links = search rules in
    let same : c.grants_first.new.self.tree.world ≡ c.args.self.now.tree.world = ap (λ e. e.tree.world) c.grants_first.ensures.state in
    let few = subst (λ (w : World). link_count w.names linked < w.limits.links) same here in
    let may = lt-ltb (link_count c.args.self.now.tree.world.names linked) c.args.self.now.tree.world.limits.links few in
    let other : kind_of c.grants_first.new.self.tree.world linked ≢ Some Directory = search rules in
    let plain = no_directory (kind_of c.args.self.now.tree.world linked) (subst (λ (w : World). kind_of w linked ≢ Some Directory) same other) in
    let saved : c.args.step.handles.saved ≡ Some linked = search rules in
    let there_is : there c.args.step.handles ≡ linked = ap number_in saved in
    let may_there = subst (λ (n : ℕ). nat_lt (link_count c.args.self.now.tree.world.names n) c.args.self.now.tree.world.limits.links ≡ true) (sym there_is) may in
    let plain_there = subst (λ (n : ℕ). option_map_or is_directory (kind_of c.args.self.now.tree.world n) false ≡ false) (sym there_is) plain in
    asked_after c.args.step.context.room c.args.step.context (λ x. link c.args.args.now.name.bytes.now x c.args.step.handles)
    (λ x. is_nameable c.in_ok-directory.directory ∷ []) c.args.self.now c.args.step.handles c.args.out.now lines c.grants_first.new.self _ _ _
    (search (rules, may_there, plain_there)) (search (rules, may_there, plain_there)) (search rules) c.name_linked.ensures

pub returns-then-links-most : goal.returns-then-links-most
returns-then-links-most g c =
    let linked = c.in_ok-linked.linked in
    let same : c.grants_first.new.self.tree.world ≡ c.args.self.now.tree.world = ap (λ e. e.tree.world) c.grants_first.ensures.state in
    let here : c.grants_first.new.self.tree.world.limits.links ≤ link_count c.grants_first.new.self.tree.world.names linked = search rules in
    let many = subst (λ (w : World). w.limits.links ≤ link_count w.names linked) same here in
    let full = le-ltb (link_count c.args.self.now.tree.world.names linked) c.args.self.now.tree.world.limits.links many in
    let other : kind_of c.grants_first.new.self.tree.world linked ≢ Some Directory = search rules in
    let plain = no_directory (kind_of c.args.self.now.tree.world linked) (subst (λ (w : World). kind_of w linked ≢ Some Directory) same other) in
    let saved : c.args.step.handles.saved ≡ Some linked = search rules in
    let there_is : there c.args.step.handles ≡ linked = ap number_in saved in
    let full_there = subst (λ (n : ℕ). nat_lt (link_count c.args.self.now.tree.world.names n) c.args.self.now.tree.world.limits.links ≡ false) (sym there_is) full in
    let plain_there = subst (λ (n : ℕ). option_map_or is_directory (kind_of c.args.self.now.tree.world n) false ≡ false) (sym there_is) plain in
    search (rules, full_there, plain_there)
