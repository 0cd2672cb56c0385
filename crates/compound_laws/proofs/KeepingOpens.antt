-- Each operation preserves the law of open files.
use Rattle.std.proofs.Common.{◌≡◌, ℕ, ◌<◌, ◌≤◌, Bool, true, false, ◌&&◌, List, inl, inr, refl, sym, ap, subst, length, nat_lt, arith}
use Rattle.std.specs.Prelude.{[], ◌∷◌, ◌++◌, ◌==◌, Option, Some, None, IsSome, Ok, not, is_some, ◌||◌, unwrap_or, if◌then◌else◌}
use Rattle.std.specs.List.{AllByRecursion}
use Rattle.std.specs.Option.{option_or, option_map, option_map_or}
use Rattle.std.proofs.lemmas.Bool.Decides.{nat_tests}
use Rattle.std.proofs.lemmas.List.{length-append, length-map}
use Rattle.xdr_wire.specs.Xdr.{Value}
use Rattle.acl_list.specs.declared.entry.Kind.{Kind}
use Rattle.acl_list.specs.declared.entry.Kind.TheVariants.{File, Directory, Link}
use Rattle.acl_shape.specs.Permissions.{changed_high}
use Rattle.nfs_types.specs.Sent.{Wanted}
use Rattle.nfs_types.specs.declared.status.Status.{Status}
use Rattle.nfs_ops.specs.Forms.{open_args}
use Rattle.nfs_ops.specs.Operations.{Operation, Known}
use Rattle.nfs_ops.specs.Parts.{How, NoCreate, Unchecked, Guarded, Claim, ByName, ByHandle, how_of, claim_of, created_name, old_name, new_name}
use Rattle.nfs_ops.specs.Results.{Outcome}
use Rattle.nfs_ops.specs.declared.OpKind.TheVariants as kinds
use Rattle.session_slots.proofs.Members.{length_filter}
use Rattle.node_tree.specs.declared.at.At.{At}
use Rattle.node_tree.specs.World.{World, Object, object, kind_of, child_named}
use Rattle.node_tree.specs.Changes.{touched, retold, written, resized, with_write, with_size, with_list, with_owner, with_times}
use Rattle.node_tree.proofs.Objects.{option_map-changed}
use Rattle.compound_run.specs.Realm.{Realm, Opened}
use Rattle.compound_run.specs.Context.{Context, Handles}
use Rattle.compound_run.specs.Sight.{whole, kind_at}
use Rattle.compound_run.specs.Questions.{failure, result_unless}
use Rattle.compound_run.specs.Meaning.{at, here, there, number_in}
use Rattle.compound_run.specs.Operations.Close.{ended}
use Rattle.compound_run.specs.Operations.Create.{created, list_at}
use Rattle.compound_run.specs.Lists.{set_list}
use Rattle.compound_run.specs.Operations.Setattr.{sets_acl, sets_owner, sized, listed, owned, timed, set_on, setting}
use Rattle.nfs_types.specs.declared.set_time.SetTime.{SetTime}
use Rattle.compound_run.specs.Times.{moment_set}
use Rattle.compound_run.specs.Operations.Open.{access_of, found_by, found, found_fault, wanted, truncates, joined, reopened, with_reopened, with_open, new_open, file_of, file_in, opened_on, name_in, has_open_space, has_file_space, has_space_for}
use Rattle.compound_run.specs.Operations.{meaning}
use Rattle.compound_run.specs.Runs.{outcome}
use Rattle.compound_run.specs.Exact.{ArePassedOrSuffice}
use Rattle.compound_run.specs.Operations.ReclaimComplete.{reclaimed}
use Rattle.compound_run.specs.Sessions.{opens_without}
use Rattle.compound_run.specs.Stateids.{client_of}
use Rattle.session_slots.specs.Destroying.{with_reclaimed}
use Rattle.session_slots.specs.Registry.{Registry}
use Rattle.compound_laws.specs.LiveOpens.{OpensHold}
use Rattle.compound_run.proofs.Exactly.{passed}
use Rattle.compound_laws.proofs.Changing.{Changing, OfClose, OfCreate, OfLink, OfOpen, OfRemove, OfRename, OfSetAttr}
use Rattle.compound_laws.proofs.Changing.{OfWrite, OfReclaimComplete, operation_of}
use Rattle.compound_laws.proofs.Operations.{laws_of}
use Rattle.compound_laws.proofs.KeptByRuns.{Keeps}
use Rattle.compound_laws.proofs.LivingOpens.{LiveIn, each_left, one_more, of_child, Same, same_again, same_then, hold_same, hold_linked, hold_new, kind_there, kept_new, live_new, hold_removed, hold_renamed, hold_registry}

-- ---- WRITE and SETATTR

written_same : (w : World) (file offset : ℕ) (more : List ℕ) (at : At) → Same w (with_write w file offset more at)
written_same w file offset [] at = same_again w
written_same w file offset (byte ∷ more) at = record {
  kinds = λ k. option_map-changed (λ o. o.kind) file (λ o. touched at (record o { bytes = written o.bytes offset (byte ∷ more) })) w.objects (λ o. refl) k;
  names = refl;
  next = refl;
  limits = refl;
}

truncated_same : (w : World) (file size : ℕ) (at : At) → Same w (with_size w file size at)
truncated_same w file size at = record {
  kinds = λ k. option_map-changed (λ o. o.kind) file (λ o. touched at (record o { bytes = resized o.bytes size })) w.objects (λ o. refl) k;
  names = refl;
  next = refl;
  limits = refl;
}

sized_same : (w : World) (file : ℕ) (size : Option ℕ) (at : At) → Same w (sized file size at w)
sized_same w file None at = same_again w
sized_same w file (Some size) at = truncated_same w file size at

listed_same : (w : World) (number : ℕ) (o : Object) (wanted : Wanted) (at : At) → Same w (listed number o wanted at w)
listed_same w number o wanted at = of (sets_acl wanted)
  where
    of : (b : Bool) → Same w (if b then with_list w number (set_list wanted o.kind o.list) (changed_high o.high wanted.mode) at else w)
    of true = record {
      kinds = λ k. option_map-changed (λ o. o.kind) number (λ x. retold at (record x { list = set_list wanted o.kind o.list; high = changed_high o.high wanted.mode; stamp = w.next_stamp })) w.objects (λ o. refl) k;
      names = refl;
      next = refl;
      limits = refl;
    }
    of false = same_again w

owned_same : (w : World) (number : ℕ) (o : Object) (wanted : Wanted) (at : At) → Same w (owned number o wanted at w)
owned_same w number o wanted at = of (sets_owner wanted)
  where
    of : (b : Bool) → Same w (if b then with_owner w number (unwrap_or wanted.owner o.owner) (unwrap_or wanted.group o.group) at else w)
    of true = record {
      kinds = λ k. option_map-changed (λ o. o.kind) number (λ x. retold at (record x { owner = unwrap_or wanted.owner o.owner; group = unwrap_or wanted.group o.group; stamp = w.next_stamp })) w.objects (λ o. refl) k;
      names = refl;
      next = refl;
      limits = refl;
    }
    of false = same_again w

timed_same : (w : World) (number : ℕ) (access modify : Option SetTime) (at : At) → Same w (timed number access modify at w)
timed_same w number access modify at = of (is_some access || is_some modify)
  where
    of : (b : Bool) → Same w (if b then with_times w number (moment_set at.moment access) (moment_set at.moment modify) at else w)
    of true = record {
      kinds = λ k. option_map-changed (λ o. o.kind) number (λ x. retold at (record x { time_access = option_or (moment_set at.moment access) x.time_access; time_modify = unwrap_or (moment_set at.moment modify) x.time_modify })) w.objects (λ o. refl) k;
      names = refl;
      next = refl;
      limits = refl;
    }
    of false = same_again w

setting_same : (number : ℕ) (wanted : Wanted) (at : At) (w : World) → Same w (setting number wanted at w)
unfolding setting
setting_same number wanted at w = of (object w number)
  where
    of : (o : Option Object) → Same w (option_map_or (λ o. set_on number o wanted at w) o w)
    of None = same_again w
    of (Some o) =
        let mid = sized number wanted.size at w in
        let next = listed number o wanted at mid in
        let last = owned number o wanted at next in
        let end = timed number wanted.access wanted.modify at last in
        same_then w mid end (sized_same w number wanted.size at)
        (same_then mid next end (listed_same mid number o wanted at)
        (same_then next last end (owned_same next number o wanted at) (timed_same last number wanted.access wanted.modify at)))

-- ---- CLOSE

hold_closed : (r : Realm) (number : ℕ) → OpensHold r → OpensHold (ended number r)
hold_closed r number hold = record {
  live = each_left (LiveIn r.world) (LiveIn r.world) (λ (o : Opened). not (o.number == number)) r.opens (λ o other is. is) hold.live;
  few = let less = length_filter (λ (o : Opened). not (o.number == number)) r.opens in let few = hold.few in omega (arith, less, few);
  kept = hold.kept;
}

-- ---- OPEN

one_reopened : (w : World) (access number : ℕ) (o : Opened) → kind_of w o.object ≡ Some File → kind_of w (if o.number == number then reopened access o else o).object ≡ Some File
one_reopened w access number o is = of (o.number == number)
  where
    of : (b : Bool) → kind_of w (if b then reopened access o else o).object ≡ Some File
    of true = is
    of false = is

all_reopened : (w : World) (access number : ℕ) (opens : List Opened) → AllByRecursion (LiveIn w) opens → AllByRecursion (LiveIn w) (with_reopened number access opens)
all_reopened w access number [] live = tt
all_reopened w access number (o ∷ opens) live = (one_reopened w access number o live.0, all_reopened w access number opens live.1)

-- there was space for one more
within : (n most : ℕ) (more : Bool) → nat_lt n most && more ≡ true → n < most
within n most more space = of (nat_lt n most) refl space
  where
    of : (b : Bool) → nat_lt n most ≡ b → b && more ≡ true → n < most
    of true is space = grind (arith, nat_tests, is)
    of false is space = cc

few_more : (opens : List Opened) (o : Opened) (most : ℕ) → length opens < most → length (opens ++ o ∷ []) ≤ most
few_more opens o most less = let long = length-append opens (o ∷ []) in omega (arith, long, less)

-- an existing file is opened
hold_found : (c : Context) (v : Value open_args) (directory file : ℕ) (r : Realm) (o : Option Opened) → kind_of r.world file ≡ Some File → has_open_space o (whole r) ≡ true → OpensHold r → OpensHold (with_open c v file o r)
hold_found c v directory file r (Some o) is space hold = record {
  live = all_reopened r.world (access_of v) o.number r.opens hold.live;
  few = let long = length-map r.opens (λ (x : Opened). if x.number == o.number then reopened (access_of v) x else x) in let few = hold.few in omega (arith, long, few);
  kept = hold.kept;
}
hold_found c v directory file r None is space hold = record {
  live = one_more (LiveIn r.world) r.opens (new_open c v r.next_open file) hold.live is;
  few = few_more r.opens (new_open c v r.next_open file) r.world.limits.opens (within (length r.opens) r.world.limits.opens _ space);
  kept = hold.kept;
}

-- a new file is opened
hold_made : (c : Context) (v : Value open_args) (directory : ℕ) (r : Realm) → has_open_space None (whole r) ≡ true → OpensHold r → OpensHold (opened_on c v directory None r)
hold_made c v directory r space hold =
    let w = r.world in
    let made = created c (file_of (wanted c v)) (wanted c v) (list_at w directory) w.next_stamp (at c w) in
    let name = name_in (claim_of v) in
    record {
      live = one_more (LiveIn (file_in c v directory None w)) r.opens (new_open c v r.next_open w.next_number) (live_new w directory name made (at c w) hold.kept r.opens hold.live) (kind_there w directory name made (at c w) hold.kept);
      few = few_more r.opens (new_open c v r.next_open w.next_number) w.limits.opens (within (length r.opens) w.limits.opens _ space);
      kept = kept_new w directory name made (at c w) hold.kept;
    }

-- a truncated file still exists
file_same : (c : Context) (v : Value open_args) (directory file : ℕ) (w : World) → Same w (file_in c v directory (Some file) w)
file_same c v directory file w = of (truncates c v)
  where
    of : (b : Bool) → Same w (if b then with_size w file 0 (at c w) else w)
    of true = truncated_same w file 0 (at c w)
    of false = same_again w

-- the object that is opened is a file
is_kind : (o : Option Kind) → IsSome o → unwrap_or o File ≡ File → o ≡ Some File
is_kind None there is = cc
is_kind (Some kind) there is = ap Some is

found_kind : (how : How) (kind : Kind) → found_fault how (Some kind) ≡ None → kind ≡ File
found_kind NoCreate File none = refl
found_kind NoCreate Directory none = cc
found_kind NoCreate Link none = cc
found_kind (Unchecked set) File none = refl
found_kind (Unchecked set) Directory none = cc
found_kind (Unchecked set) Link none = cc
found_kind (Guarded set) kind none = cc

found_there : (r : Realm) (h : Handles) (claim : Claim) (file : ℕ) → OpensHold r → IsSome (kind_of r.world (here h)) → found_by claim h (whole r) ≡ Some file → IsSome (kind_of r.world file)
found_there r h (ByName name) file hold live is = of_child r.world (here h) name file hold.kept is
found_there r h ByHandle file hold live is = subst (λ x. IsSome (kind_of r.world (number_in x))) is live

second : (a b : Bool) → a && b ≡ true → b ≡ true
second true b h = h
second false b h = cc

hold_opened : (c : Context) (v : Value open_args) (h : Handles) (r : Realm) (file : Option ℕ) → found v h (whole r) ≡ file → IsSome (kind_of r.world (here h)) → found_fault (how_of v) (option_map (kind_at (whole r)) file) ≡ None
    → has_space_for c v (here h) file (whole r) ≡ true → OpensHold r → OpensHold (opened_on c v (here h) file r)
hold_opened c v h r None is live fault space hold = hold_made c v (here h) r (second (has_file_space c v (here h) None (whole r)) _ space) hold
hold_opened c v h r (Some file) is live fault space hold =
    let there = found_there r h (claim_of v) file hold live is in
    let kind = is_kind (kind_of r.world file) there (found_kind (how_of v) (kind_at (whole r) file) fault) in
    let open_space = second (has_file_space c v (here h) (Some file) (whole r)) _ space in
    let opened = hold_found c v (here h) file r (joined c v (Some file) r.opens) kind open_space hold in
    hold_again (joined c v (Some file) r.opens) opened
  where
    hold_again : (o : Option Opened) → OpensHold (with_open c v file o r) → OpensHold (record (with_open c v file o r) { world = file_in c v (here h) (Some file) r.world })
    hold_again None opened = hold_same (with_open c v file None r) (file_in c v (here h) (Some file) r.world) (file_same c v (here h) file r.world) opened
    hold_again (Some o) opened = hold_same (with_open c v file (Some o) r) (file_in c v (here h) (Some file) r.world) (file_same c v (here h) file r.world) opened

-- ---- RECLAIM_COMPLETE

hold_reclaimed : (one_fs : Bool) (c : Context) (r : Realm) → OpensHold r → OpensHold (reclaimed one_fs c r)
hold_reclaimed true c r hold = hold
hold_reclaimed false c r hold = hold_registry r (with_reclaimed r.registry (client_of c)) hold

-- ---- each operation

no_failure : (f : Option Status) (answer o : Outcome) → result_unless f answer ≡ Ok o → f ≡ None
no_failure None answer o is = refl
no_failure (Some status) answer o is = cc

all_passed : (c : Context) (h : Handles) (op : Operation) (r : Realm) (o : Outcome) → outcome (meaning c h op) r ≡ Ok o → ArePassedOrSuffice (meaning c h op).caller (whole r) (meaning c h op).questions
all_passed c h op r o is = let m = meaning c h op in passed m.caller (whole r) m.questions (no_failure (failure m.caller (whole r) m.questions) (m.answer (whole r)) o is)

changing_keeps : (c : Context) (h : Handles) (k : Changing) (r : Realm) (o : Outcome) → OpensHold r
    → outcome (meaning c h (operation_of k)) r ≡ Ok o → OpensHold ((meaning c h (operation_of k)).effect r)
changing_keeps c h (OfClose v) r o hold is = hold_closed r _ hold
changing_keeps c h (OfCreate v) r o hold is = hold_new r (here h) (created_name v) _ (at c r.world) hold
changing_keeps c h (OfLink v) r o hold is =
    let p = all_passed c h (Known kinds.Link v) r o is in
    hold_linked r (here h) v (there h) (at c r.world) p.1.1.1.1.0 hold
changing_keeps c h (OfOpen v) r o hold is =
    let p = all_passed c h (Known kinds.Open v) r o is in
    hold_opened c v h r (found v h (whole r)) refl p.1.1.0 p.1.1.1.1.1.1.1.0 p.1.1.1.1.1.1.1.1.1.1.1.0 hold
changing_keeps c h (OfRemove v) r o hold is =
    hold_removed r (here h) v (at c r.world) (child_named r.world (here h) v) refl hold
changing_keeps c h (OfRename v) r o hold is =
    hold_renamed r (there h) (old_name v) (here h) (new_name v) (at c r.world)
    (child_named r.world (there h) (old_name v)) (child_named r.world (here h) (new_name v)) refl refl hold
changing_keeps c h (OfSetAttr v) r o hold is = hold_same r _ (setting_same (here h) _ (at c r.world) r.world) hold
changing_keeps c h (OfWrite v) r o hold is = hold_same r _ (written_same r.world (here h) _ _ (at c r.world)) hold
changing_keeps c h (OfReclaimComplete v) r o hold is = hold_reclaimed v c r hold

pub operations_keep : (c : Context) (h : Handles) (op : Operation) (r : Realm) (o : Outcome) → OpensHold r
    → outcome (meaning c h op) r ≡ Ok o → OpensHold ((meaning c h op).effect r)
operations_keep c h op r o hold is =
    elim ((laws_of c h op).changes) [
      | inl stays ↦ subst OpensHold (sym (stays r)) hold
      | inr one ↦
          subst (λ (op : Operation). outcome (meaning c h op) r ≡ Ok o → OpensHold ((meaning c h op).effect r))
          (sym one.1) (changing_keeps c h one.0 r o hold) is
    ]

-- ---- each call

-- the opens of a client are closed
hold_without : (r : Realm) (registry : Registry) (expired : Option ℕ) → OpensHold r → OpensHold (record r { registry = registry; opens = opens_without expired r.opens })
hold_without r registry None hold = record { live = hold.live; few = hold.few; kept = hold.kept }
hold_without r registry (Some client) hold = record {
  live = each_left (LiveIn r.world) (LiveIn r.world) (λ o. not (o.client == client)) r.opens (λ o stays live. live) hold.live;
  few = let less = length_filter (λ (o : Opened). not (o.client == client)) r.opens in let few = hold.few in omega (arith, less, few);
  kept = hold.kept;
}

pub opens_keep : Keeps OpensHold
opens_keep = record { operations = operations_keep; registry = hold_registry; without = hold_without }
