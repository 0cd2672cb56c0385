-- Operations that look up names reveal to a caller no more than the caller may see.
use Rattle.std.proofs.Common.{◌≡◌, ℕ, ◌<◌, ◌^◌, Bool, true, false, ◌&&◌, cond, List, refl, ap, sym, subst, length, arith}
use Rattle.std.specs.Prelude.{[], ◌∷◌, ◌==◌, Option, Some, None, is_some, not, bit_and, bit_or, if◌then◌else◌}
use Rattle.std.specs.Option.{option_map}
use Rattle.std.proofs.lemmas.Bool.Decides.{Decides-eqb}
use Rattle.xdr_wire.specs.Xdr.{Value}
use Rattle.rpc_record.specs.Identity.{Identity}
use Rattle.acl_list.specs.declared.entry.Kind.{Kind}
use Rattle.acl_list.specs.declared.mask.TheConstants.{EXECUTE, ADD_FILE, ADD_SUBDIRECTORY}
use Rattle.nfs_ops.specs.Forms.{create_args, rename_args}
use Rattle.nfs_ops.specs.Operations.{Known}
use Rattle.nfs_ops.specs.Parts as parts
use Rattle.nfs_ops.specs.Parts.{Created, created_type, created_name, old_name, new_name}
use Rattle.nfs_ops.specs.declared.OpKind.TheVariants as kinds
use Rattle.nfs_ops.specs.Results.{Done}
use Rattle.node_tree.specs.World.{kind_of, child_in, is_one}
use Rattle.node_tree.specs.Judged.{judged_of}
use Rattle.node_tree.specs.Refusals.{has_left, may_add, may_name, may_move}
use Rattle.access_rows.specs.Rows.{creating_mask, rename_first, rename_second}
use Rattle.access_rows.specs.declared.demand.Demand.TheVariants.{Bits}
use Rattle.access_guard.specs.Lists.{Lists}
use Rattle.access_guard.specs.Decisions.{decision, is_granted}
use Rattle.compound_run.specs.Realm.{Realm}
use Rattle.compound_run.specs.Context.{Context, Handles}
use Rattle.compound_run.specs.Sight.{whole, view, gives}
use Rattle.compound_run.specs.Questions.{all_granted}
use Rattle.compound_run.specs.Rows.{first_facts, second_facts}
use Rattle.compound_run.specs.Operations.Create.{draft_of, draft, wanted, type_fault}
use Rattle.compound_run.specs.Lists.{new_fits}
use Rattle.compound_run.specs.Values.{list_at}
use Rattle.compound_run.specs.Operations.Rename.{goes_below, can_replace}
use Rattle.compound_run.specs.Meaning.{here, there, number_in, changed, unchanged}
use Rattle.compound_run.specs.Operations.{meaning}
use Rattle.compound_laws.specs.Disclosure.{DisclosesNothing}
use Rattle.compound_laws.proofs.Seen.{IsSeen, discloses_nothing, first}
use Rattle.compound_laws.proofs.Observing.{Grants, gives_mask, gives_part}

-- ---- names in a directory on which EXECUTE is granted

pub names_seen : (w : Realm) (caller : Identity) (number : ℕ) → gives w.world caller number EXECUTE ≡ true → (whole w).names number ≡ (view w caller).names number
names_seen w caller number h = rw h refl

-- a row that demands EXECUTE beside other bits
pub executes : (w : Realm) (caller : Identity) (handle : Option ℕ) (mask : ℕ) → mask < 2 ^ 32 → mask == 0 ≡ false → bit_and EXECUTE mask ≡ EXECUTE → is_some handle ≡ true → is_some (kind_of w.world (number_in handle)) ≡ true
    → Grants w caller handle mask → gives w.world caller (number_in handle) EXECUTE ≡ true
executes w caller None mask fits some within set live h = cc
executes w caller (Some number) mask fits some within set live h =
    gives_part w caller number mask EXECUTE fits (omega arith) within (gives_mask w caller number mask (kind_of w.world number) refl live some h)

-- ---- LINK

link_seen : (c : Context) (h : Handles) (name : List ℕ) → IsSeen (meaning c h (Known kinds.Link name))
link_seen c h name w = (
  refl,
  λ _. (
    refl,
    λ set. (
      refl,
      λ live. (
        refl,
        λ _. (
          refl,
          λ _. (
            refl,
            λ _. (
              refl,
              λ _. (
                refl,
                λ _. (
                  refl,
                  λ granted.
                      let names = names_seen w c.caller (here h) (executes w c.caller h.current (bit_or EXECUTE ADD_FILE) (omega arith) refl refl set live granted) in (
                        ap (λ all. not (is_some (child_in all name))) names,
                        λ _. (refl, λ _. (ap (λ all. has_left w.world.next_tick && may_name w.world.limits (length all) w.world.next_cookie) names, λ _. refl)),
                      ),
                ),
              ),
            ),
          ),
        ),
      ),
    ),
  ),
)

pub link_discloses_nothing : (c : Context) (h : Handles) (name : List ℕ) → DisclosesNothing (meaning c h (Known kinds.Link name))
link_discloses_nothing c h name = discloses_nothing (meaning c h (Known kinds.Link name)) (link_seen c h name)

-- ---- CREATE

-- EXECUTE is demanded for each supported type
create_executes : (w : Realm) (caller : Identity) (handle : Option ℕ) (type : Created) → type_fault (draft_of type) ≡ None → is_some handle ≡ true → is_some (kind_of w.world (number_in handle)) ≡ true
    → Grants w caller handle (creating_mask type) → gives w.world caller (number_in handle) EXECUTE ≡ true
create_executes w caller handle parts.Directory is set live h = executes w caller handle (bit_or EXECUTE ADD_SUBDIRECTORY) (omega arith) refl refl set live h
create_executes w caller handle (parts.Link text) is set live h = executes w caller handle (bit_or EXECUTE ADD_FILE) (omega arith) refl refl set live h
create_executes w caller handle parts.File is set live h = cc
create_executes w caller handle (parts.Block numbers) is set live h = cc
create_executes w caller handle (parts.Character numbers) is set live h = cc
create_executes w caller handle parts.Socket is set live h = cc
create_executes w caller handle parts.Fifo is set live h = cc
create_executes w caller handle parts.AttributeDirectory is set live h = cc
create_executes w caller handle parts.NamedAttribute is set live h = cc

create_seen : (c : Context) (h : Handles) (v : Value create_args) → IsSeen (meaning c h (Known kinds.Create v))
create_seen c h v w = (
  refl,
  λ _. (
    refl,
    λ set. (
      refl,
      λ live. (
        refl,
        λ _. (
          refl,
          λ typed. (
            refl,
            λ _. (
              refl,
              λ _. (
                refl,
                λ _. (
                  refl,
                  λ _. (
                    refl,
                    λ granted.
                        let names = names_seen w c.caller (here h) (create_executes w c.caller h.current (created_type v) typed set live granted) in (
                          ap (λ all. not (is_some (child_in all (created_name v)))) names,
                          λ _. (
                            refl,
                            λ _. (
                              ap (λ all. has_left w.world.next_tick && (new_fits (wanted c v) (draft v).kind (list_at (whole w) (here h)) && may_add w.world.limits (length all) (length w.world.objects) w.world.next_number w.world.next_stamp w.world.next_cookie)) names,
                              λ _. refl,
                            ),
                          ),
                        ),
                  ),
                ),
              ),
            ),
          ),
        ),
      ),
    ),
  ),
)

pub create_discloses_nothing : (c : Context) (h : Handles) (v : Value create_args) → DisclosesNothing (meaning c h (Known kinds.Create v))
create_discloses_nothing c h v = discloses_nothing (meaning c h (Known kinds.Create v)) (create_seen c h v)

-- ---- RENAME

-- if both directories are the same, the demand is decided once
second_gives : (lists : Lists) (caller : Identity) (s d : ℕ) (same : Bool) → s == d ≡ same → is_granted (decision lists caller (Bits s EXECUTE)) ≡ true
    → all_granted lists caller (cond same None (Some (Bits d EXECUTE)) ∷ []) ≡ true → is_granted (decision lists caller (Bits d EXECUTE)) ≡ true
second_gives lists caller s d true is given h = subst (λ n. is_granted (decision lists caller (Bits n EXECUTE)) ≡ true) ((Decides-eqb s d).0 is) given
second_gives lists caller s d false is given h = first (is_granted (decision lists caller (Bits d EXECUTE))) true h

second : (a b : Bool) → a && b ≡ true → b ≡ true
second true b h = h
second false b h = cc

-- the demands of the first row, by the types of both directories
abbrev asks_first : Realm → Identity → ℕ → ℕ → Option Kind → Option Kind → Type 0
asks_first w caller s d from to =
    all_granted (judged_of w.world) caller (rename_first (record {
      current = option_map (λ kind. record { number = d; kind = kind }) to;
      saved = option_map (λ kind. record { number = s; kind = kind }) from;
      size = None;
      new_size = None;
      clock = None;
    })) ≡ true

both_execute : (w : Realm) (caller : Identity) (s d : ℕ) (from to : Option Kind) → is_some from ≡ true → is_some to ≡ true → asks_first w caller s d from to
    → (gives w.world caller s EXECUTE ≡ true) × (gives w.world caller d EXECUTE ≡ true)
both_execute w caller s d None to there there' h = cc
both_execute w caller s d (Some kind) None there there' h = cc
both_execute w caller s d (Some kind) (Some kind') there there' h =
    let one = first (gives w.world caller s EXECUTE) _ h in
    (one, second_gives (judged_of w.world) caller s d (s == d) refl one (second (gives w.world caller s EXECUTE) _ h))

rename_executes : (w : Realm) (caller : Identity) (h : Handles) → is_some h.current ≡ true → is_some (kind_of w.world (here h)) ≡ true → is_some h.saved ≡ true → is_some (kind_of w.world (there h)) ≡ true
    → all_granted (judged_of w.world) caller (rename_first (first_facts (whole w) h)) ≡ true → (gives w.world caller (there h) EXECUTE ≡ true) × (gives w.world caller (here h) EXECUTE ≡ true)
rename_executes w caller h set live set' live' granted = of h.current h.saved refl refl
  where
    of : (d s : Option ℕ) → h.current ≡ d → h.saved ≡ s → (gives w.world caller (there h) EXECUTE ≡ true) × (gives w.world caller (here h) EXECUTE ≡ true)
    of None s is is' = cc
    of (Some d) None is is' = cc
    of (Some d) (Some s) is is' =
        let holds = subst (λ x. is_some (kind_of w.world (number_in x)) ≡ true) is live in
        let holds' = subst (λ x. is_some (kind_of w.world (number_in x)) ≡ true) is' live' in
        let both = both_execute w caller s d (kind_of w.world s) (kind_of w.world d) holds' holds (subst (λ x. all_granted (judged_of w.world) caller (rename_first (first_facts (whole w) x)) ≡ true) (λ i. record { current = is i; saved = is' i }) granted) in
        (subst (λ x. gives w.world caller (number_in x) EXECUTE ≡ true) (sym is') both.0, subst (λ x. gives w.world caller (number_in x) EXECUTE ≡ true) (sym is) both.1)

rename_seen : (c : Context) (h : Handles) (v : Value rename_args) → IsSeen (meaning c h (Known kinds.Rename v))
rename_seen c h v w = (
  refl,
  λ _. (
    refl,
    λ set. (
      refl,
      λ live. (
        refl,
        λ set'. (
          refl,
          λ live'. (
            refl,
            λ _. (
              refl,
              λ _. (
                refl,
                λ _. (
                  refl,
                  λ _. (
                    refl,
                    λ granted.
                        let both = rename_executes w c.caller h set live set' live' granted in
                        let names = names_seen w c.caller (here h) both.1 in
                        let moved = ap (λ all. child_in all (old_name v)) (names_seen w c.caller (there h) both.0) in
                        let replaced = ap (λ all. child_in all (new_name v)) names in
                        let outcome : (meaning c h (Known kinds.Rename v)).answer (whole w) ≡ (meaning c h (Known kinds.Rename v)).answer (view w c.caller) =
                        λ i. Done kinds.Rename (if is_one (moved i) (replaced i) then (unchanged (whole w) (there h), unchanged (whole w) (here h)) else (changed (whole w) (there h), changed (whole w) (here h))) in (
                          ap is_some moved,
                          λ _. (
                            λ i. is_one (moved i) (replaced i),
                            λ _. outcome,
                            λ _. (
                              λ i. not (goes_below (whole w) (number_in (moved i)) (here h)),
                              λ _. (
                                λ i. can_replace (whole w) (number_in (moved i)) (replaced i),
                                λ _. (
                                  λ i. rename_second (second_facts (whole w) h (moved i) (replaced i)),
                                  λ _. (λ i. has_left w.world.next_tick && may_move w.world.limits (length (names i)) w.world.next_cookie (there h) (here h) (replaced i), λ _. outcome),
                                ),
                              ),
                            ),
                          ),
                        ),
                  ),
                ),
              ),
            ),
          ),
        ),
      ),
    ),
  ),
)

pub rename_discloses_nothing : (c : Context) (h : Handles) (v : Value rename_args) → DisclosesNothing (meaning c h (Known kinds.Rename v))
rename_discloses_nothing c h v = discloses_nothing (meaning c h (Known kinds.Rename v)) (rename_seen c h v)
