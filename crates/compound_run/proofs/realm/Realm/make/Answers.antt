use Rattle.std.proofs.Common.{rules, ◌≡◌, ◌∙◌, ap, subst, sym, true}
use Rattle.std.specs.Prelude.{Some, Err, Result, unwrap_or}
use Rattle.nfs_types.specs.declared.status.Status.{Status}
use Rattle.nfs_ops.specs.Views.{create_args_value}
use Rattle.node_tree.specs.Refusals.{has_left}
use Rattle.compound_run.specs.Asking.{sight_of}
use Rattle.compound_run.specs.Operations.Create as specs
use Rattle.compound_run.specs.Operations.Create.{list_at}
use Rattle.compound_run.specs.Lists.{new_fits}
use Rattle.compound_run.specs.Runs.{waits}
use Rattle.compound_run.specs.declared.filehandles.FileHandles.{FileHandles}
use Rattle.compound_run.specs.Views.{OperationGives, context_at, realm_of, draft_view, wanted_view, stage, sense}
use Rattle.compound_run.proofs.Creating.{not_added, world_created}
use Rattle.compound_run.proofs.Opening.{left_is}
use Rattle.compound_run.proofs.realm.Realm.make.Goals as goal

pub returns-in_err-number : goal.returns-in_err-number
returns-in_err-number g c =
    let old = c.args.self.now in
    let context = context_at old c.args.step.context in
    let v = create_args_value c.args.args.now in
    let h = c.args.step.handles in
    let d = c.args.directory.number in
    let status = c.in_err-number.field-0.0 in
    let is : c.add.result ≡ Err status = search rules in
    let answer : c.from_residual-in_err-number.result ≡ Err status = search rules in
    let ticks : c.tick.result ≡ Some c.in_ok-at.at = search rules in
    let left = left_is (has_left (sight_of old).next_tick) _ c.in_ok-at.at (sym c.tick.ensures.value ∙ ticks) in
    let bounds : new_fits (specs.wanted context v) (specs.draft v).kind (list_at old.tree.world d) ≡ true =
    (λ i. new_fits (c.requires.wanted i) (c.requires.draft i).kind (list_at old.tree.world d)) ∙ c.in_ok-new.ensures.fits in
    subst (λ (r : Result FileHandles Status). OperationGives (sense true (specs.making v d context h) waits) c.args.step.context.room h (stage old c.args.out.now) r (stage c.add.new.self c.args.out.now)) (sym answer)
    (not_added c.args.step.context.room context h v old c.add.new.self c.args.out.now d left bounds status c.add.result is c.add.ensures.full c.add.ensures.space c.in_err-number.ensures.err)

pub returns : goal.returns
returns g c =
    let old = realm_of c.args.self.now in
    let created = world_created (context_at c.args.self.now c.args.step.context) c.args.step.handles (create_args_value c.args.args.now) c.in_ok-new.new (draft_view c.args.wanted.0) (wanted_view c.args.wanted.1) old.world c.args.directory.number c.in_ok-at.at
    c.requires.here c.requires.draft c.requires.wanted (search rules)
    c.in_ok-new.ensures.kind c.in_ok-new.ensures.bytes (c.in_ok-new.ensures.owner ∙ ap (λ who. who.uid) c.member-caller.ensures) (c.in_ok-new.ensures.group ∙ ap (λ who. unwrap_or c.args.wanted.1.group who.gid) c.member-caller.ensures) c.in_ok-new.ensures.list c.in_ok-new.ensures.high
    c.in_ok-new.ensures.access c.in_ok-new.ensures.modify in
    let context = context_at c.args.self.now c.args.step.context in
    let v = create_args_value c.args.args.now in
    let bounds : new_fits (specs.wanted context v) (specs.draft v).kind (list_at old.world c.args.directory.number) ≡ true =
    (λ i. new_fits (c.requires.wanted i) (c.requires.draft i).kind (list_at old.world c.args.directory.number)) ∙ c.in_ok-new.ensures.fits in
    record {
      answered = record {
        outcome = search (rules, bounds);
        log = search rules;
        trail_stays = search rules;
        total_stays = search rules;
        realm = search (rules, created);
        handles = search rules;
        realm_stays = search rules;
        handles_stay = search rules;
        settings = search rules;
      };
      written = search rules;
      within = search rules;
      unwritten = search rules;
    }
