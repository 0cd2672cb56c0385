use Rattle.std.proofs.Common.{rules, ◌&&◌, ◌≡◌, ◌∙◌, ℕ, ap, sym, subst, true, false, inl}
use Rattle.std.specs.Prelude.{Some, None, Ok, Err, Result}
use Rattle.rpc_record.specs.Identity.{Identity}
use Rattle.nfs_types.specs.declared.status.Status.{Status}
use Rattle.nfs_ops.specs.Results.{Done}
use Rattle.nfs_ops.specs.Views.{change_info_value, open_args_value}
use Rattle.nfs_ops.specs.declared.OpKind.TheVariants as kinds
use Rattle.node_tree.specs.Changes.{made, with_new}
use Rattle.node_tree.specs.Refusals.{has_left}
use Rattle.node_tree.specs.World.{World}
use Rattle.xdr_wire.specs.Xdr.{Value}
use Rattle.nfs_ops.specs.Forms.{change_info}
use Rattle.nfs_ops.specs.Parts.{claim_of}
use Rattle.compound_run.specs.Asking.{sight_of}
use Rattle.acl_list.specs.declared.entry.Kind.TheVariants.{File}
use Rattle.compound_run.specs.Operations.Create.{can_add, is_own, list_at}
use Rattle.compound_run.specs.Lists.{new_fits}
use Rattle.compound_run.specs.Realm.{Realm}
use Rattle.compound_run.specs.Meaning.{at, here}
use Rattle.compound_run.specs.Operations.Open.{change_of, file_in, has_file_space, has_open_space, has_space_for, joined, opened_on, opening, with_open}
use Rattle.compound_run.specs.Operations.Open as specs
use Rattle.compound_run.specs.Opening.{MakesFile, placed_stateid}
use Rattle.compound_run.specs.Runs.{waits}
use Rattle.compound_run.specs.Operations.Setattr.{size_fits}
use Rattle.compound_run.specs.Sight.{whole}
use Rattle.compound_run.specs.declared.filehandles.FileHandles.{FileHandles}
use Rattle.compound_run.specs.Views.{OperationGives, context_at, opens_view, realm_of, settings_in, settings_of, wanted_view, stage, sense}
use Rattle.compound_run.proofs.Opening.{refused, given, fails_by, wanting, there_is, left_is, some_is, change_made, space_new, no_space_new, no_open_more, unfit, file_made, realm_placed, placed_stateid_is}
use Rattle.compound_run.proofs.Writing.{written_as}
use Rattle.compound_run.proofs.realm.Realm.open_new.Goals as goal

pub returns-in_err-place : goal.returns-in_err-place
returns-in_err-place g c =
    let context = context_at c.args.self.now c.args.step.context in
    let v = open_args_value c.args.args.now in
    let h = c.args.step.handles in
    let d = c.args.directory.number in
    let s = sight_of c.args.self.now in
    let status = c.in_err-place.field-0.0 in
    let is : c.place.result ≡ Err status = search rules in
    let answer : c.from_residual-in_err-place.result ≡ Err status = search rules in
    let here_is : here h ≡ d = search rules in
    let found : specs.found v h s ≡ None = search rules in
    let realm = ap realm_of c.place.ensures.others ∙ ap (λ items. record (realm_of c.args.self.now) { opens = opens_view items }) c.place.ensures.opens in
    let own : is_own context.caller (wanted_view c.args.wanted) ≡ true = search rules in
    let fits : size_fits c.args.self.now.tree.world.limits c.args.wanted.size ≡ true = search rules in
    let file = has_file_space context v d None s in
    let more = has_open_space (joined context v None s.opens) s in
    subst (λ (r : Result FileHandles Status). OperationGives (sense true (opening v context h) waits) c.args.step.context.room h (stage c.args.self.now c.args.out.now) r (stage c.place.new.self c.args.out.now)) (sym answer)
    (refused c.args.step.context.room v context h c.args.self.now c.place.new.self c.args.out.now status realm
    (ap (λ e. e.tree.log) c.place.ensures.others) (ap settings_of c.place.ensures.others)
    (λ other. fails_by v context h s None found true true (file && more) (ap (is_own context.caller) c.requires.wanted ∙ own) (ap (λ w. size_fits s.limits w.size) c.requires.wanted ∙ fits)
    (ap (λ x. has_space_for context v x None s) here_is)
    ∙ no_open_more file more status (wanting more status c.place.result is c.place.ensures.full c.place.ensures.space other)))

pub returns-in_err-new : goal.returns-in_err-new
returns-in_err-new g c =
    let context = context_at c.args.self.now c.args.step.context in
    let v = open_args_value c.args.args.now in
    let h = c.args.step.handles in
    let d = c.args.directory.number in
    let s = sight_of c.args.self.now in
    let w = c.args.self.now.tree.world in
    let status = c.in_err-new.field-0.0 in
    let is : c.new_file.result ≡ Err status = search rules in
    let answer : c.from_residual-in_err-new.result ≡ Err status = search rules in
    let here_is : here h ≡ d = search rules in
    let found : specs.found v h s ≡ None = search rules in
    let realm = ap realm_of c.place.ensures.others ∙ ap (λ items. record (realm_of c.args.self.now) { opens = opens_view items }) c.place.ensures.opens in
    let worlds : c.place.new.self.tree.world ≡ w = ap (λ e. e.tree.world) c.place.ensures.others in
    let ticks : c.tick.result ≡ Some c.in_ok-at.at = search rules in
    let left = left_is (has_left s.next_tick) _ c.in_ok-at.at (sym c.tick.ensures.value ∙ ticks) in
    let own : is_own context.caller (wanted_view c.args.wanted) ≡ true = search rules in
    let fits : size_fits c.args.self.now.tree.world.limits c.args.wanted.size ≡ true = search rules in
    let bounds = new_fits (specs.wanted context v) File (list_at w d) in
    let same : new_fits (wanted_view c.args.wanted) File (list_at c.place.new.self.tree.world d) ≡ bounds = λ i. new_fits (sym c.requires.wanted i) File (list_at (worlds i) d) in
    let none = unfit (new_fits (wanted_view c.args.wanted) File (list_at c.place.new.self.tree.world d)) status c.new_file.result is c.new_file.ensures.fits in
    subst (λ (r : Result FileHandles Status). OperationGives (sense true (opening v context h) waits) c.args.step.context.room h (stage c.args.self.now c.args.out.now) r (stage c.place.new.self c.args.out.now)) (sym answer)
    (refused c.args.step.context.room v context h c.args.self.now c.place.new.self c.args.out.now status realm
    (ap (λ e. e.tree.log) c.place.ensures.others) (ap settings_of c.place.ensures.others)
    (λ other. fails_by v context h s None found true true false (ap (is_own context.caller) c.requires.wanted ∙ own) (ap (λ w. size_fits s.limits w.size) c.requires.wanted ∙ fits)
    (ap (λ x. has_space_for context v x None s) here_is ∙ no_space_new (has_left s.next_tick) bounds (can_add s d) (has_open_space (joined context v None s.opens) s) left (sym same ∙ (none other).1))
    ∙ ap (λ x. Some x) (none other).0))

pub returns-in_err-file : goal.returns-in_err-file
returns-in_err-file g c =
    let context = context_at c.args.self.now c.args.step.context in
    let v = open_args_value c.args.args.now in
    let h = c.args.step.handles in
    let d = c.args.directory.number in
    let s = sight_of c.args.self.now in
    let status = c.in_err-file.field-0.0 in
    let is : c.add.result ≡ Err status = search rules in
    let answer : c.from_residual-in_err-file.result ≡ Err status = search rules in
    let here_is : here h ≡ d = search rules in
    let found : specs.found v h s ≡ None = search rules in
    let same = ap realm_of c.place.ensures.others ∙ ap (λ items. record (realm_of c.args.self.now) { opens = opens_view items }) c.place.ensures.opens in
    let realm = ap realm_of c.in_err-file.ensures.err ∙ same in
    let ticks : c.tick.result ≡ Some c.in_ok-at.at = search rules in
    let left = left_is (has_left s.next_tick) _ c.in_ok-at.at (sym c.tick.ensures.value ∙ ticks) in
    let placing : c.place.result ≡ Ok c.in_ok-place.place = search rules in
    let more = there_is (has_open_space (joined context v None s.opens) s) c.in_ok-place.place c.place.result placing c.place.ensures.full in
    let own : is_own context.caller (wanted_view c.args.wanted) ≡ true = search rules in
    let fits : size_fits c.args.self.now.tree.world.limits c.args.wanted.size ≡ true = search rules in
    let worlds : c.place.new.self.tree.world ≡ c.args.self.now.tree.world = ap (λ e. e.tree.world) c.place.ensures.others in
    let bounded : new_fits (specs.wanted context v) File (list_at c.args.self.now.tree.world d) ≡ true = (λ i. new_fits (c.requires.wanted i) File (list_at (sym worlds i) d)) ∙ c.in_ok-new.ensures.fits in
    let can = can_add s d in
    let cans = ap (λ r. can_add (whole r) d) same in
    subst (λ (r : Result FileHandles Status). OperationGives (sense true (opening v context h) waits) c.args.step.context.room h (stage c.args.self.now c.args.out.now) r (stage c.add.new.self c.args.out.now)) (sym answer)
    (refused c.args.step.context.room v context h c.args.self.now c.add.new.self c.args.out.now status realm
    (ap (λ e. e.tree.log) c.in_err-file.ensures.err ∙ ap (λ e. e.tree.log) c.place.ensures.others) (ap settings_of c.in_err-file.ensures.err ∙ ap settings_of c.place.ensures.others)
    (λ other. fails_by v context h s None found true true can (ap (is_own context.caller) c.requires.wanted ∙ own) (ap (λ w. size_fits s.limits w.size) c.requires.wanted ∙ fits)
    (ap (λ x. has_space_for context v x None s) here_is ∙ space_new (has_left s.next_tick) (new_fits (specs.wanted context v) File (list_at c.args.self.now.tree.world d)) can (has_open_space (joined context v None s.opens) s) left bounded more)
    ∙ wanting can status c.add.result is (λ full. c.add.ensures.full (cans ∙ full)) (λ may. c.add.ensures.space (cans ∙ may)) other))

pub returns : goal.returns
returns g c =
    let context = context_at c.args.self.now c.args.step.context in
    let v = open_args_value c.args.args.now in
    let h = c.args.step.handles in
    let d = c.args.directory.number in
    let s = sight_of c.args.self.now in
    let w = c.args.self.now.tree.world in
    let file = c.in_ok-file.file in
    let is : c.add.result ≡ Ok file = search rules in
    let here_is : here h ≡ d = search rules in
    let found : specs.found v h s ≡ None = search rules in
    let same = ap realm_of c.place.ensures.others ∙ ap (λ items. record (realm_of c.args.self.now) { opens = opens_view items }) c.place.ensures.opens in
    let worlds : c.place.new.self.tree.world ≡ w = ap (λ e. e.tree.world) c.place.ensures.others in
    let number : file ≡ w.next_number = c.in_ok-file.ensures.number ∙ ap (λ x. x.next_number) worlds in
    let ticks : c.tick.result ≡ Some c.in_ok-at.at = search rules in
    let left = left_is (has_left s.next_tick) _ c.in_ok-at.at (sym c.tick.ensures.value ∙ ticks) in
    let placing : c.place.result ≡ Ok c.in_ok-place.place = search rules in
    let more = there_is (has_open_space (joined context v None s.opens) s) c.in_ok-place.place c.place.result placing c.place.ensures.full in
    let own : is_own context.caller (wanted_view c.args.wanted) ≡ true = search rules in
    let fits : size_fits c.args.self.now.tree.world.limits c.args.wanted.size ≡ true = search rules in
    let bounded : new_fits (specs.wanted context v) File (list_at w d) ≡ true = (λ i. new_fits (c.requires.wanted i) File (list_at (sym worlds i) d)) ∙ c.in_ok-new.ensures.fits in
    let cans = ap (λ r. can_add (whole r) d) same in
    let can = there_is (can_add s d) file c.add.result is (λ full. c.add.ensures.full (cans ∙ full)) in
    let place = c.in_ok-place.place in
    let has_slot = c.in_ok-place.ensures.place in
    let when : c.in_ok-at.at ≡ at context w = some_is (has_left s.next_tick) (at context w) c.in_ok-at.at (sym c.tick.ensures.value ∙ ticks) in
    let made_file : with_new w d c.args.name.now (made c.in_ok-new.new w.next_stamp c.in_ok-at.at) c.in_ok-at.at ≡ file_in context v d None w =
    file_made context v c.in_ok-new.new (wanted_view c.args.wanted) w d c.args.name.now c.in_ok-at.at c.requires.claim c.requires.wanted when
    (subst (λ (x : World). MakesFile context.times context.now context.caller x.limits (list_at x d) (wanted_view c.args.wanted) c.in_ok-new.new) worlds
    (subst (λ (who : Identity). MakesFile context.times context.now who c.place.new.self.tree.world.limits (list_at c.place.new.self.tree.world d) (wanted_view c.args.wanted) c.in_ok-new.new) c.member-caller.ensures c.in_ok-new.ensures.made)) in
    let added : realm_of c.add.new.self ≡ record (realm_of c.args.self.now) { world = file_in context v d None w } =
    ap realm_of c.in_ok-file.ensures.ok ∙ ap (λ (r : Realm). record r { world = with_new r.world d c.args.name.now (made c.in_ok-new.new r.world.next_stamp c.in_ok-at.at) c.in_ok-at.at }) same ∙ ap (λ x. record (realm_of c.args.self.now) { world = x }) made_file in
    let put : realm_of c.put_open-stateid.new.self ≡ record (with_open context v file (joined context v None s.opens) (realm_of c.args.self.now)) { world = file_in context v d None w } =
    realm_placed context v file (joined context v None s.opens) place (realm_of c.args.self.now) (realm_of c.add.new.self) (realm_of c.put_open-stateid.new.self) (file_in context v d None w) has_slot c.put_open-stateid.ensures.realm added in
    let opened : realm_of c.put_open-stateid.new.self ≡ opened_on context v (here h) None (realm_of c.args.self.now) =
    put ∙ (λ i. record (with_open context v (number i) (joined context v None s.opens) (realm_of c.args.self.now)) { world = file_in context v (sym here_is i) None w }) in
    let stateid = c.put_open-stateid.ensures.stateid ∙ ap (λ n. placed_stateid place n) (ap (λ r. r.next_open) added) ∙ placed_stateid_is context v file (joined context v None s.opens) place s.next_open has_slot in
    let change : (let outcome : Value change_info = (inl tt, (c.args.directory.change, c.in_ok-at.at.tick)) in outcome) ≡ change_of (claim_of v) (here h) None s =
    change_made (claim_of v) c.args.name.now (here h) s c.args.directory.change c.in_ok-at.at.tick c.requires.claim (sym c.requires.change ∙ ap (λ n. s.changes n) (sym here_is)) (ap (λ a. a.tick) when) in
    let outcome = ap change_info_value c.changed-change.ensures ∙ change in
    subst (λ (n : ℕ). OperationGives (sense true (opening v context h) waits) c.args.step.context.room h (stage c.args.self.now c.args.out.now) (Ok (record h { current = Some n })) (stage c.put_open-stateid.new.self c.put_result.new.out)) (sym number)
    (given c.args.step.context.room v context h c.args.self.now c.put_open-stateid.new.self c.args.out.now None c.put_result.new.out found (ap (is_own context.caller) c.requires.wanted ∙ own) (ap (λ w. size_fits s.limits w.size) c.requires.wanted ∙ fits)
    (ap (λ x. has_space_for context v x None s) here_is ∙ space_new (has_left s.next_tick) (new_fits (specs.wanted context v) File (list_at w d)) (can_add s d) (has_open_space (joined context v None s.opens) s) left bounded more ∙ can)
    opened (ap (λ x. x.log) c.put_open-stateid.ensures.tree ∙ ap (λ e. e.tree.log) c.in_ok-file.ensures.ok ∙ ap (λ e. e.tree.log) c.place.ensures.others)
    (ap settings_in c.put_open-stateid.ensures.tree ∙ ap settings_of c.in_ok-file.ensures.ok ∙ ap settings_of c.place.ensures.others)
    (written_as _ _ _ _ c.put_result.ensures.written (λ i. Done kinds.Open (stateid i, (outcome i, (inl tt, (c.sent_set-set.ensures i, inl tt)))))) (search rules))
