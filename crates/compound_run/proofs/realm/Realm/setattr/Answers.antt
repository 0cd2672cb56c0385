use Rattle.std.proofs.Common.{rules, ◌≡◌, sym, subst, true}
use Rattle.std.specs.Prelude.{Result, Err}
use Rattle.nfs_types.specs.declared.status.Status.{Status}
use Rattle.nfs_ops.specs.Views.{setattr_args_value}
use Rattle.compound_run.specs.Runs.{waits}
use Rattle.compound_run.specs.Operations.Setattr.{setattr}
use Rattle.compound_run.specs.declared.filehandles.FileHandles.{FileHandles}
use Rattle.compound_run.specs.Views.{context_at, wanted_view, OperationGives, stage, sense}
use Rattle.compound_run.proofs.Setting.{not_sized, not_wanted, too_large, attributes_refused, attributes_set}
use Rattle.compound_run.proofs.realm.Realm.setattr.Goals as goal

pub returns-in_err-wanted : goal.returns-in_err-wanted
returns-in_err-wanted g c =
    let context = context_at c.args.self.now c.args.step.context in
    let v = setattr_args_value c.args.args.now in
    let is : c.from_residual-in_err-wanted.result ≡ Err c.in_err-wanted.field-0.0 = search rules in
    subst (λ (r : Result FileHandles Status). OperationGives (sense true (setattr v context c.args.step.handles) waits) c.args.step.context.room c.args.step.handles (stage c.args.self.now c.args.out.now) r (stage c.args.self.now c.args.out.now)) (sym is)
    (not_wanted c.args.step.context.room context c.args.step.handles v c.args.self.now c.args.out.now c.in_ok-number.number c.in_err-wanted.field-0.0 (search rules) (search rules) c.in_err-wanted.ensures.wanted)

pub returns-in_err-check_size : goal.returns-in_err-check_size
returns-in_err-check_size g c =
    let context = context_at c.args.self.now c.args.step.context in
    let v = setattr_args_value c.args.args.now in
    let status = c.in_err-check_size.field-0.0 in
    let is : c.from_residual-in_err-check_size.result ≡ Err status = search rules in
    subst (λ (r : Result FileHandles Status). OperationGives (sense true (setattr v context c.args.step.handles) waits) c.args.step.context.room c.args.step.handles (stage c.args.self.now c.args.out.now) r (stage c.args.self.now c.args.out.now)) (sym is)
    (not_sized c.args.step.context.room context c.args.step.handles v c.args.self.now c.args.out.now c.in_ok-number.number (wanted_view c.in_ok-wanted.wanted) status (search rules) (search rules) c.in_ok-wanted.ensures.wanted c.in_err-check_size.ensures.fault)

pub returns-then-not-size_fits : goal.returns-then-not-size_fits
returns-then-not-size_fits g c =
    too_large c.args.step.context.room (context_at c.args.self.now c.args.step.context) c.args.step.handles (setattr_args_value c.args.args.now) c.args.self.now c.grants_sized.new.self c.args.out.now
    c.in_ok-number.number (wanted_view c.in_ok-wanted.wanted)
    (search rules) (search rules) c.in_ok-wanted.ensures.wanted c.in_ok-check_size.ensures.fault (search rules) (search rules) (search rules)

pub returns-in_err-set_any : goal.returns-in_err-set_any
returns-in_err-set_any g c =
    let context = context_at c.args.self.now c.args.step.context in
    let v = setattr_args_value c.args.args.now in
    let status = c.in_err-set_any.field-0.0 in
    let is : c.from_residual-in_err-set_any.result ≡ Err status = search rules in
    subst (λ (r : Result FileHandles Status). OperationGives (sense true (setattr v context c.args.step.handles) waits) c.args.step.context.room c.args.step.handles (stage c.args.self.now c.args.out.now) r (stage c.set_any.new.self c.args.out.now)) (sym is)
    (attributes_refused c.args.step.context.room context c.args.step.handles v c.args.self.now c.grants_sized.new.self c.set_any.new.self c.args.out.now
    c.in_ok-number.number (wanted_view c.in_ok-wanted.wanted) status
    (search rules) (search rules) c.in_ok-wanted.ensures.wanted c.in_ok-check_size.ensures.fault (search rules) (search rules) (search rules) (search rules) c.in_err-set_any.ensures.fits c.in_err-set_any.ensures.err)

pub returns : goal.returns
returns g c =
    attributes_set c.args.step.context.room (context_at c.args.self.now c.args.step.context) c.args.step.handles (setattr_args_value c.args.args.now) c.args.self.now c.grants_sized.new.self c.set_any.new.self c.args.out.now c.put_result.new.out
    c.in_ok-number.number (wanted_view c.in_ok-wanted.wanted)
    (search rules) (search rules) c.in_ok-wanted.ensures.wanted c.in_ok-check_size.ensures.fault (search rules) (search rules) (search rules) (search rules) c.in_ok-set_any.ensures.fits c.in_ok-set_any.ensures.ok
    c.put_result.ensures.written (search rules)
