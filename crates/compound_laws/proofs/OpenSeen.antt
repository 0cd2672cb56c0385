-- OPEN reveals to a caller no more than the caller may see.
use Rattle.std.proofs.Common.{◌≡◌, ℕ, true, false, ◌&&◌, refl, ap, sym, ◌∙◌, length, inl, arith}
use Rattle.std.specs.Prelude.{[], ◌∷◌, Option, Some, None, is_some}
use Rattle.std.specs.Option.{option_map}
use Rattle.xdr_wire.specs.Xdr.{Value}
use Rattle.rpc_record.specs.Identity.{Identity}
use Rattle.acl_list.specs.declared.entry.Kind.TheVariants.{File}
use Rattle.acl_list.specs.declared.mask.TheConstants.{EXECUTE}
use Rattle.nfs_ops.specs.Forms.{open_args, open_result}
use Rattle.nfs_ops.specs.Operations.{Known}
use Rattle.nfs_ops.specs.Parts.{Claim, ByName, ByHandle, how_of, claim_of}
use Rattle.nfs_ops.specs.declared.OpKind.TheVariants as kinds
use Rattle.nfs_ops.specs.Results.{Done}
use Rattle.node_tree.specs.World.{kind_of, child_in}
use Rattle.node_tree.specs.Judged.{judged_of}
use Rattle.node_tree.specs.Refusals.{has_left, may_add}
use Rattle.access_rows.specs.Rows.{open_first, second_demands}
use Rattle.compound_run.specs.Realm.{Realm, Opened}
use Rattle.compound_run.specs.Context.{Context, Handles}
use Rattle.compound_run.specs.Sight.{whole, view, kind_at}
use Rattle.compound_run.specs.Questions.{all_granted}
use Rattle.compound_run.specs.Rows.{object_of, opening_facts}
use Rattle.compound_run.specs.Lists.{new_fits}
use Rattle.compound_run.specs.Values.{list_at}
use Rattle.compound_run.specs.Operations.Open.{found_by, found, found_fault, wanted, joined, is_permitted, is_within, has_file_space, has_open_space, has_space_for, change_of, stateid_of, set_by, result_on}
use Rattle.compound_run.specs.Meaning.{here}
use Rattle.compound_run.specs.Operations.{meaning}
use Rattle.compound_laws.specs.Disclosure.{DisclosesNothing}
use Rattle.compound_laws.proofs.Seen.{IsSeen, discloses_nothing}
use Rattle.compound_laws.proofs.NamesSeen.{names_seen, executes}

-- the first row of an OPEN, by its claim
abbrev Opens : Realm → Identity → Handles → Claim → Type 0
Opens w caller h claim = all_granted (judged_of w.world) caller (open_first claim (object_of (whole w) h.current) ∷ None ∷ []) ≡ true

-- a name is looked up if EXECUTE is granted; a filehandle is the current filehandle
found_seen : (w : Realm) (caller : Identity) (h : Handles) (claim : Claim) → is_some h.current ≡ true → is_some (kind_of w.world (here h)) ≡ true → Opens w caller h claim
    → found_by claim h (whole w) ≡ found_by claim h (view w caller)
found_seen w caller h (ByName name) set live granted = ap (λ all. child_in all name) (names_seen w caller (here h) (executes w caller h.current EXECUTE (omega arith) refl refl set live granted))
found_seen w caller h ByHandle set live granted = refl

apart : false ≡ true → ⊥
apart h = cc

-- a new file is created by name
space_seen : (c : Context) (v : Value open_args) (w : Realm) (h : Handles) (claim : Claim) (file : Option ℕ) → is_some h.current ≡ true → is_some (kind_of w.world (here h)) ≡ true → Opens w c.caller h claim
    → found_by claim h (whole w) ≡ file → has_file_space c v (here h) file (whole w) ≡ has_file_space c v (here h) file (view w c.caller)
space_seen c v w h (ByName name) None set live granted is =
    ap (λ all. has_left w.world.next_tick && (new_fits (wanted c v) File (list_at (whole w) (here h)) && may_add w.world.limits (length all) (length w.world.objects) w.world.next_number w.world.next_stamp w.world.next_cookie))
    (names_seen w c.caller (here h) (executes w c.caller h.current EXECUTE (omega arith) refl refl set live granted))
space_seen c v w h ByHandle None set live granted is = absurd (apart (ap is_some (sym is) ∙ set))
space_seen c v w h claim (Some file) set live granted is = refl

open_space_seen : (w : Realm) (caller : Identity) (o : Option Opened) → has_open_space o (whole w) ≡ has_open_space o (view w caller)
open_space_seen w caller None = refl
open_space_seen w caller (Some o) = refl

change_seen : (w : Realm) (caller : Identity) (directory : ℕ) (claim : Claim) (file : Option ℕ) → change_of claim directory file (whole w) ≡ change_of claim directory file (view w caller)
change_seen w caller directory (ByName name) None = refl
change_seen w caller directory (ByName name) (Some file) = refl
change_seen w caller directory ByHandle file = refl

result_seen : (c : Context) (v : Value open_args) (w : Realm) (directory : ℕ) (file : Option ℕ) → result_on c v directory file (whole w) ≡ result_on c v directory file (view w c.caller)
result_seen c v w directory file =
    ap (λ change. let r : Value open_result = (stateid_of (joined c v file w.opens) w.next_open, (change, (inl tt, (set_by c v file, inl tt)))) in r) (change_seen w c.caller directory (claim_of v) file)

open_seen : (c : Context) (h : Handles) (v : Value open_args) → IsSeen (meaning c h (Known kinds.Open v))
open_seen c h v w = (
  refl,
  λ _. (
    refl,
    λ set. (
      refl,
      λ live. (
        refl,
        λ _. (
          refl,
          λ _. (
            refl,
            λ _. (
              refl,
              λ granted.
                  let file = found_seen w c.caller h (claim_of v) set live granted in
                  let space = space_seen c v w h (claim_of v) (found v h (whole w)) set live granted refl in (
                    λ i. found_fault (how_of v) (option_map (kind_at (whole w)) (file i)),
                    λ _. (
                      λ i. second_demands (Known kinds.Open v) (opening_facts (whole w) h (file i) (wanted c v).size),
                      λ _. (
                        λ i. is_permitted c v (file i),
                        λ _. (
                          λ i. is_within w.world.limits c v (file i),
                          λ _. (
                            ap (λ b. b && has_open_space (joined c v (found v h (whole w)) w.opens) (whole w)) space
                                ∙ ap (λ b. has_file_space c v (here h) (found v h (whole w)) (view w c.caller) && b) (open_space_seen w c.caller (joined c v (found v h (whole w)) w.opens))
                                ∙ (λ i. has_space_for c v (here h) (file i) (view w c.caller)),
                            λ _. ap (λ result. Done kinds.Open result) (ap (λ x. result_on c v (here h) x (whole w)) file ∙ result_seen c v w (here h) (found v h (view w c.caller))),
                          ),
                        ),
                      ),
                    ),
                  ),
            ),
          ),
        ),
      ),
    ),
  ),
)

pub open_discloses_nothing : (c : Context) (h : Handles) (v : Value open_args) → DisclosesNothing (meaning c h (Known kinds.Open v))
open_discloses_nothing c h v = discloses_nothing (meaning c h (Known kinds.Open v)) (open_seen c h v)
