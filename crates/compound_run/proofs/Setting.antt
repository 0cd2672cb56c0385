-- The answers when attributes are set.
use Rattle.std.proofs.Common.{◌≡◌, ℕ, Bool, List, cond, ◌≤◌, ◌+◌, true, false, refl, append-nil, length, ap, sym, ◌∙◌, subst}
use Rattle.access_guard.specs.declared.line.Line.{Line}
use Rattle.std.specs.Prelude.{[], ◌≢◌, if◌then◌else◌, is_some, Option, Some, None, Ok, Err, unwrap_or, IsSome, IfSome}
use Rattle.std.specs.Option.{option_map, option_map_or}
use Rattle.acl_shape.specs.declared.permissions.Permissions.{Permissions}
use Rattle.acl_shape.specs.Permissions.{changed_high}
use Rattle.xdr_wire.specs.Buffer.{Buffer, Appends}
use Rattle.xdr_wire.specs.Xdr.{Value}
use Rattle.nfs_types.specs.Sent.{Wanted}
use Rattle.nfs_types.specs.declared.status.Status.{Status}
use Rattle.nfs_types.specs.declared.status.Status.TheVariants as statuses
use Rattle.nfs_ops.specs.Forms.{setattr_args}
use Rattle.nfs_ops.specs.Operations.{Known}
use Rattle.nfs_ops.specs.Parts.{set_attributes, set_stateid, set_of}
use Rattle.nfs_ops.specs.Results.{Done}
use Rattle.nfs_ops.specs.Rows.{row}
use Rattle.nfs_ops.specs.declared.OpKind.TheVariants as kinds
use Rattle.access_guard.specs.Log.{held}
use Rattle.access_rows.specs.Rows.{Demands, first_demands}
use Rattle.node_tree.specs.Judged.{judged_of}
use Rattle.node_tree.specs.World.{World, Object, object, kind_of}
use Rattle.compound_run.specs.declared.realm.Realm as realms
use Rattle.compound_run.specs.declared.filehandles.FileHandles.{FileHandles}
use Rattle.compound_run.specs.Asking.{sight_of}
use Rattle.compound_run.specs.Context.{Context}
use Rattle.compound_run.specs.Operations.Create.{list_at, wanted_in}
use Rattle.compound_run.specs.Lists.{set_fits, set_list}
use Rattle.compound_run.specs.internal.Permits.{Permits, permitted, entitled}
use Rattle.node_tree.specs.declared.at.At.{At}
use Rattle.node_tree.specs.Changes.{with_list}
use Rattle.compound_run.specs.Meaning.{at, here}
use Rattle.compound_run.specs.Questions.{failure, trace, result_unless, all_granted, demand_lines}
use Rattle.compound_run.specs.Rows.{sized_facts}
use Rattle.compound_run.specs.Times.{clock_of}
use Rattle.compound_run.specs.Runs.{spelled, waits}
use Rattle.compound_run.specs.Operations.Setattr.{setattr, sent, size_fault, size_fits, can_count, sets_acl, sized, listed, timed, set_on, setting, with_attributes}
use Rattle.compound_run.specs.Sight.{kind_at}
use Rattle.compound_run.specs.Views.{OperationGives, holding, realm_of, with_world, stage, sense}

live : (o : Option Object) → IsSome o → is_some (option_map (λ o. o.kind) o) ≡ true
live None is = cc
live (Some o) is = refl

-- the attributes that are sent have a fault
pub not_wanted : {A : Type 0} (room : ℕ) (c : Context) (h : FileHandles) (v : Value setattr_args) (e : realms.Realm A) (out : Buffer) (number : ℕ) (status : Status)
    → h.current ≡ Some number → IsSome (object e.tree.world number) → (status ≢ statuses.Delay → sent c v (kind_at (sight_of e) number) ≡ Err status)
    → OperationGives (sense true (setattr v c h) waits) room h (stage e out) (Err status) (stage e out)
not_wanted room c h v e out number status is_here there wrong = record {
  answered = record {
    outcome = λ apart. rw is_here (rw (live (object e.tree.world number) there) (rw (wrong (λ is. apart (ap Err is))) refl));
    log = λ apart. rw is_here (rw (live (object e.tree.world number) there) (rw (wrong (λ is. apart (ap Err is))) (ap (λ l. record e.tree.log { held = l }) (sym (append-nil e.tree.log.held)))));
    trail_stays = λ d. refl;
    total_stays = λ d. refl;
    realm = tt;
    handles = tt;
    realm_stays = refl;
    handles_stay = refl;
    settings = refl;
  };
  written = tt;
  within = tt;
  unwritten = refl;
}

-- the size of the object can't be set
pub not_sized : {A : Type 0} (room : ℕ) (c : Context) (h : FileHandles) (v : Value setattr_args) (e : realms.Realm A) (out : Buffer) (number : ℕ) (wanted : Wanted) (status : Status)
    → h.current ≡ Some number → IsSome (object e.tree.world number) → sent c v (kind_at (sight_of e) number) ≡ Ok wanted → size_fault wanted.size c number (set_stateid v) (sight_of e) ≡ Some status
    → OperationGives (sense true (setattr v c h) waits) room h (stage e out) (Err status) (stage e out)
not_sized room c h v e out number wanted status is_here there is_wanted wrong = record {
  answered = record {
    outcome = λ apart. rw is_here (rw (live (object e.tree.world number) there) (rw is_wanted (rw wrong refl)));
    log = λ apart. rw is_here (rw (live (object e.tree.world number) there) (rw is_wanted (rw wrong (ap (λ l. record e.tree.log { held = l }) (sym (append-nil e.tree.log.held))))));
    trail_stays = λ d. refl;
    total_stays = λ d. refl;
    realm = tt;
    handles = tt;
    realm_stays = refl;
    handles_stay = refl;
    settings = refl;
  };
  written = tt;
  within = tt;
  unwritten = refl;
}

-- the demands on the access control list (ACL)
abbrev pub demanded : {A : Type 0} → Value setattr_args → FileHandles → realms.Realm A → Wanted → Demands
demanded v h e wanted = first_demands (Known kinds.SetAttr v) (sized_facts (sight_of e) h wanted.size (clock_of wanted))

-- the size is above the limit of a file
module _ {A : Type 0} (c : Context) (h : FileHandles) (v : Value setattr_args) (e : realms.Realm A) (wanted : Wanted)
    (set : is_some h.current ≡ true)
    (is_live : is_some (kind_of e.tree.world (here h)) ≡ true)
    (is_wanted : sent c v (kind_at (sight_of e) (here h)) ≡ Ok wanted)
    (size : size_fault wanted.size c (here h) (set_stateid v) (sight_of e) ≡ None)
    (granted : all_granted (judged_of e.tree.world) c.caller (demanded v h e wanted) ≡ true)
    (unfit : size_fits e.tree.world.limits wanted.size ≡ false) where
  is_too_large : failure c.caller (sight_of e) (setattr v c h).questions ≡ Some statuses.FBig
  is_too_large = rw set (rw is_live (rw is_wanted (rw size (rw granted (rw unfit refl)))))

  large_lines : trace c.caller (row kinds.SetAttr).number (sight_of e) (setattr v c h).questions ≡ demand_lines (judged_of e.tree.world) c.caller (row kinds.SetAttr).number (demanded v h e wanted)
  large_lines = rw set (rw is_live (rw is_wanted (rw size (rw granted (rw unfit (append-nil (demand_lines (judged_of e.tree.world) c.caller (row kinds.SetAttr).number (demanded v h e wanted))))))))

  gives_too_large : (room : ℕ) (mid : realms.Realm A) (out : Buffer)
      → mid ≡ holding (demand_lines (judged_of e.tree.world) c.caller (row kinds.SetAttr).number (demanded v h e wanted)) e
      → OperationGives (sense true (setattr v c h) waits) room h (stage e out) (Err statuses.FBig) (stage mid out)
  gives_too_large room mid out holds =
      subst (λ (x : realms.Realm A). OperationGives (sense true (setattr v c h) waits) room h (stage e out) (Err statuses.FBig) (stage x out)) (sym holds) (record {
        answered = record {
          outcome = λ apart. ap (λ f. result_unless f (Done kinds.SetAttr (set_of (set_attributes v)))) (sym is_too_large);
          log = λ apart. ap (λ l. held l e.tree.log) (sym large_lines);
          trail_stays = λ d. refl;
          total_stays = λ d. refl;
          realm = tt;
          handles = tt;
          realm_stays = refl;
          handles_stay = refl;
          settings = refl;
        };
        written = tt;
        within = tt;
        unwritten = refl;
      })

pub too_large : {A : Type 0} (room : ℕ) (c : Context) (h : FileHandles) (v : Value setattr_args) (e mid : realms.Realm A) (out : Buffer) (number : ℕ) (wanted : Wanted)
    → h.current ≡ Some number → IsSome (object e.tree.world number)
    → sent c v (kind_at (sight_of e) number) ≡ Ok wanted
    → size_fault wanted.size c number (set_stateid v) (sight_of e) ≡ None
    → all_granted (judged_of e.tree.world) c.caller (demanded v h e wanted) ≡ true
    → size_fits e.tree.world.limits wanted.size ≡ false
    → mid ≡ holding (demand_lines (judged_of e.tree.world) c.caller (row kinds.SetAttr).number (demanded v h e wanted)) e
    → OperationGives (sense true (setattr v c h) waits) room h (stage e out) (Err statuses.FBig) (stage mid out)
too_large room c h v e mid out number wanted is_here there is_wanted size granted unfit holds =
    let same : number ≡ here h = sym (ap (λ n. unwrap_or n 0) is_here) in
    gives_too_large c h v e wanted (ap is_some is_here)
    (subst (λ n. is_some (kind_of e.tree.world n) ≡ true) same (live (object e.tree.world number) there))
    (subst (λ n. sent c v (kind_at (sight_of e) n) ≡ Ok wanted) same is_wanted)
    (subst (λ n. size_fault wanted.size c n (set_stateid v) (sight_of e) ≡ None) same size)
    granted unfit room mid out holds

-- all questions pass
module _ {A : Type 0} (c : Context) (h : FileHandles) (v : Value setattr_args) (e : realms.Realm A) (wanted : Wanted)
    (set : is_some h.current ≡ true)
    (is_live : is_some (kind_of e.tree.world (here h)) ≡ true)
    (is_wanted : sent c v (kind_at (sight_of e) (here h)) ≡ Ok wanted)
    (size : size_fault wanted.size c (here h) (set_stateid v) (sight_of e) ≡ None)
    (granted : all_granted (judged_of e.tree.world) c.caller (demanded v h e wanted) ≡ true)
    (fits : size_fits e.tree.world.limits wanted.size ≡ true)
    (counts : can_count wanted (sight_of e) ≡ true)
    (bounded : Bool)
    (bounds : set_fits wanted (kind_at (sight_of e) (here h)) (list_at e.tree.world (here h)) ≡ bounded) where
  fails : failure c.caller (sight_of e) (setattr v c h).questions ≡ cond bounded None (Some statuses.NoSpc)
  fails = rw set (rw is_live (rw is_wanted (rw size (rw granted (rw fits (rw counts (rw bounds refl)))))))

  none_more : (b : Bool) → cond b [] [] ≡ (let none : List Line = [] in none)
  none_more true = refl
  none_more false = refl

  its_lines : trace c.caller (row kinds.SetAttr).number (sight_of e) (setattr v c h).questions ≡ demand_lines (judged_of e.tree.world) c.caller (row kinds.SetAttr).number (demanded v h e wanted)
  its_lines = rw set (rw is_live (rw is_wanted (rw size (rw granted (rw fits (rw counts (rw bounds (rw (none_more bounded) (append-nil (demand_lines (judged_of e.tree.world) c.caller (row kinds.SetAttr).number (demanded v h e wanted)))))))))))

  world_set : setting (here h) wanted (at c e.tree.world) e.tree.world ≡ with_attributes c h v e.tree.world
  world_set = ap (λ r. setting (here h) (wanted_in r) (at c e.tree.world) e.tree.world) (sym is_wanted)

  gives_set : (room : ℕ) (mid new : realms.Realm A) (out out' : Buffer)
      → bounded ≡ true → mid ≡ holding (demand_lines (judged_of e.tree.world) c.caller (row kinds.SetAttr).number (demanded v h e wanted)) e
      → new ≡ with_world (setting (here h) wanted (at c mid.tree.world) mid.tree.world) mid
      → Appends out out' (spelled (Done kinds.SetAttr (set_of (set_attributes v)))) → length out'.bytes ≤ length out.bytes + room
      → OperationGives (sense true (setattr v c h) waits) room h (stage e out) (Ok h) (stage new out')
  gives_set room mid new out out' within_bounds holds is_set written within =
      let lines = demand_lines (judged_of e.tree.world) c.caller (row kinds.SetAttr).number (demanded v h e wanted) in
      let end : realms.Realm A = with_world (setting (here h) wanted (at c e.tree.world) e.tree.world) (holding lines e) in
      let ends : new ≡ end = is_set ∙ (λ i. with_world (setting (here h) wanted (at c (holds i).tree.world) (holds i).tree.world) (holds i)) in
      subst (λ (x : realms.Realm A). OperationGives (sense true (setattr v c h) waits) room h (stage e out) (Ok h) (stage x out')) (sym ends) (record {
        answered = record {
          outcome = λ apart. ap (λ f. result_unless f (Done kinds.SetAttr (set_of (set_attributes v)))) (sym (fails ∙ ap (λ b. cond b None (Some statuses.NoSpc)) within_bounds));
          log = λ apart. ap (λ l. held l e.tree.log) (sym its_lines);
          trail_stays = λ d. refl;
          total_stays = λ d. refl;
          realm = ap (λ w. record (realm_of e) { world = w }) world_set;
          handles = refl;
          realm_stays = tt;
          handles_stay = tt;
          settings = refl;
        };
        written = written;
        within = within;
        unwritten = tt;
      })

  refuses_set : (room : ℕ) (mid new : realms.Realm A) (out : Buffer) (status : Status)
      → (status ≢ statuses.Delay → (status ≡ statuses.NoSpc) × (bounded ≡ false))
      → mid ≡ holding (demand_lines (judged_of e.tree.world) c.caller (row kinds.SetAttr).number (demanded v h e wanted)) e → new ≡ mid
      → OperationGives (sense true (setattr v c h) waits) room h (stage e out) (Err status) (stage new out)
  refuses_set room mid new out status unfit holds stays =
      let lines = demand_lines (judged_of e.tree.world) c.caller (row kinds.SetAttr).number (demanded v h e wanted) in
      subst (λ (x : realms.Realm A). OperationGives (sense true (setattr v c h) waits) room h (stage e out) (Err status) (stage x out)) (sym (stays ∙ holds)) (record {
        answered = record {
          outcome = λ apart.
              let none = unfit (λ is. apart (ap Err is)) in
              ap Err none.0 ∙ ap (λ f. result_unless f (Done kinds.SetAttr (set_of (set_attributes v)))) (sym (fails ∙ ap (λ b. cond b None (Some statuses.NoSpc)) none.1));
          log = λ apart. ap (λ l. held l e.tree.log) (sym its_lines);
          trail_stays = λ d. refl;
          total_stays = λ d. refl;
          realm = tt;
          handles = tt;
          realm_stays = refl;
          handles_stay = refl;
          settings = refl;
        };
        written = tt;
        within = tt;
        unwritten = refl;
      })

-- attributes of the current object are set
pub attributes_set : {A : Type 0} (room : ℕ) (c : Context) (h : FileHandles) (v : Value setattr_args) (e mid new : realms.Realm A) (out out' : Buffer) (number : ℕ) (wanted : Wanted)
    → h.current ≡ Some number → IsSome (object e.tree.world number)
    → sent c v (kind_at (sight_of e) number) ≡ Ok wanted
    → size_fault wanted.size c number (set_stateid v) (sight_of e) ≡ None
    → all_granted (judged_of e.tree.world) c.caller (demanded v h e wanted) ≡ true
    → mid ≡ holding (demand_lines (judged_of e.tree.world) c.caller (row kinds.SetAttr).number (demanded v h e wanted)) e
    → size_fits e.tree.world.limits wanted.size ≡ true
    → can_count wanted (sight_of mid) ≡ true
    → set_fits wanted (kind_at (sight_of mid) number) (list_at mid.tree.world number) ≡ true
    → new ≡ with_world (setting number wanted (at c mid.tree.world) mid.tree.world) mid
    → Appends out out' (spelled (Done kinds.SetAttr (set_of (set_attributes v)))) → length out'.bytes ≤ length out.bytes + room
    → OperationGives (sense true (setattr v c h) waits) room h (stage e out) (Ok h) (stage new out')
attributes_set room c h v e mid new out out' number wanted is_here there is_wanted size granted holds fits counts bounds is_set written within =
    let same : number ≡ here h = sym (ap (λ n. unwrap_or n 0) is_here) in
    gives_set c h v e wanted (ap is_some is_here)
    (subst (λ n. is_some (kind_of e.tree.world n) ≡ true) same (live (object e.tree.world number) there))
    (subst (λ n. sent c v (kind_at (sight_of e) n) ≡ Ok wanted) same is_wanted)
    (subst (λ n. size_fault wanted.size c n (set_stateid v) (sight_of e) ≡ None) same size)
    granted fits
    (subst (λ x. can_count wanted (sight_of x) ≡ true) holds counts)
    true ((λ i. set_fits wanted (kind_at (sight_of (sym holds i)) (sym same i)) (list_at (sym holds i).tree.world (sym same i))) ∙ bounds)
    room mid new out out' refl holds
    (subst (λ n. new ≡ with_world (setting n wanted (at c mid.tree.world) mid.tree.world) mid) same is_set)
    written within

-- the ACL would exceed its bounds, or an allocation for the attributes fails
pub attributes_refused : {A : Type 0} (room : ℕ) (c : Context) (h : FileHandles) (v : Value setattr_args) (e mid new : realms.Realm A) (out : Buffer) (number : ℕ) (wanted : Wanted) (status : Status)
    → h.current ≡ Some number → IsSome (object e.tree.world number)
    → sent c v (kind_at (sight_of e) number) ≡ Ok wanted
    → size_fault wanted.size c number (set_stateid v) (sight_of e) ≡ None
    → all_granted (judged_of e.tree.world) c.caller (demanded v h e wanted) ≡ true
    → mid ≡ holding (demand_lines (judged_of e.tree.world) c.caller (row kinds.SetAttr).number (demanded v h e wanted)) e
    → size_fits e.tree.world.limits wanted.size ≡ true
    → can_count wanted (sight_of mid) ≡ true
    → (status ≢ statuses.Delay → (status ≡ statuses.NoSpc) × (set_fits wanted (kind_at (sight_of mid) number) (list_at mid.tree.world number) ≡ false))
    → new ≡ mid
    → OperationGives (sense true (setattr v c h) waits) room h (stage e out) (Err status) (stage new out)
attributes_refused room c h v e mid new out number wanted status is_here there is_wanted size granted holds fits counts unfit stays =
    let same : number ≡ here h = sym (ap (λ n. unwrap_or n 0) is_here) in
    let bounds : set_fits wanted (kind_at (sight_of e) (here h)) (list_at e.tree.world (here h)) ≡ set_fits wanted (kind_at (sight_of mid) number) (list_at mid.tree.world number) =
    λ i. set_fits wanted (kind_at (sight_of (sym holds i)) (sym same i)) (list_at (sym holds i).tree.world (sym same i)) in
    refuses_set c h v e wanted (ap is_some is_here)
    (subst (λ n. is_some (kind_of e.tree.world n) ≡ true) same (live (object e.tree.world number) there))
    (subst (λ n. sent c v (kind_at (sight_of e) n) ≡ Ok wanted) same is_wanted)
    (subst (λ n. size_fault wanted.size c n (set_stateid v) (sight_of e) ≡ None) same size)
    granted fits
    (subst (λ x. can_count wanted (sight_of x) ≡ true) holds counts)
    (set_fits wanted (kind_at (sight_of mid) number) (list_at mid.tree.world number)) bounds
    room mid new out status unfit holds stays

-- ---- attributes are set part by part

same_list : {A : Type 0} (number : ℕ) (o : Object) (wanted : Wanted) (a : At) (made : Option (Permissions A)) (before w : World)
    → object before number ≡ Some o → is_some made ≡ sets_acl wanted → IfSome made (Permits before number wanted)
    → permitted number made a w ≡ listed number o wanted a w
same_list number o wanted a None before w there some is =
    λ i. if some i then with_list w number (set_list wanted o.kind o.list) (changed_high o.high wanted.mode) a else w
same_list number o wanted a (Some p) before w there some is =
    let list : p.list ≡ set_list wanted o.kind o.list = subst (λ (x : Option Object). IfSome x (λ o. p.list ≡ set_list wanted o.kind o.list)) there is.lists in
    let high : p.high ≡ changed_high o.high wanted.mode = subst (λ (x : Option Object). IfSome x (λ o. p.high ≡ changed_high o.high wanted.mode)) there is.highs in
    (λ i. with_list w number (list i) (high i) a)
    ∙ (λ i. if some i then with_list w number (set_list wanted o.kind o.list) (changed_high o.high wanted.mode) a else w)

-- setting the size, the ACL, the owner with the group, and the times, one after the other, sets all attributes
pub set_by_parts : {A : Type 0} (number : ℕ) (o : Object) (wanted : Wanted) (a : At) (made : Option (Permissions A)) (w : World)
    → object w number ≡ Some o → is_some made ≡ sets_acl wanted → IfSome made (Permits w number wanted)
    → timed number wanted.access wanted.modify a (entitled number wanted.owner wanted.group (o.owner, o.group) a (permitted number made a (sized number wanted.size a w))) ≡ setting number wanted a w
unfolding setting
set_by_parts number o wanted a made w there some is =
    ap (λ x. timed number wanted.access wanted.modify a (entitled number wanted.owner wanted.group (o.owner, o.group) a x)) (same_list number o wanted a made w (sized number wanted.size a w) there some is)
    ∙ (λ i. option_map_or (λ o. set_on number o wanted a w) (sym there i) w)
