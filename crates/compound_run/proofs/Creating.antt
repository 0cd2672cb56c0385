-- The answers to a CREATE after its row.
use Rattle.std.proofs.Common.{◌≡◌, ◌∙◌, ℕ, Bool, cond, true, false, refl, sym, ap, append-nil}
use Rattle.std.specs.Prelude.{List, [], ◌++◌, Some, None, Result, Err, IsOkUnless, unwrap_or}
use Rattle.xdr_wire.specs.Buffer.{Buffer}
use Rattle.xdr_wire.specs.Xdr.{Value}
use Rattle.acl_shape.specs.Permissions.{created_high}
use Rattle.nfs_types.specs.Sent.{Wanted}
use Rattle.nfs_types.specs.declared.status.Status.{Status}
use Rattle.nfs_types.specs.declared.status.Status.TheVariants as statuses
use Rattle.nfs_ops.specs.Forms.{create_args}
use Rattle.nfs_ops.specs.Parts.{created_name}
use Rattle.access_guard.specs.declared.line.Line.{Line}
use Rattle.node_tree.specs.Refusals.{has_left}
use Rattle.node_tree.specs.declared.at.At.{At}
use Rattle.node_tree.specs.declared.node.NewObject.{NewObject}
use Rattle.node_tree.specs.World.{World}
use Rattle.node_tree.specs.Changes.{made, new_object, with_new}
use Rattle.compound_run.specs.declared.realm.Realm as realms
use Rattle.compound_run.specs.declared.filehandles.FileHandles.{FileHandles}
use Rattle.compound_run.specs.Asking.{sight_of}
use Rattle.compound_run.specs.Context.{Context}
use Rattle.compound_run.specs.Meaning.{at, number_in}
use Rattle.compound_run.specs.Questions.{failure, trace, result_unless}
use Rattle.compound_run.specs.Runs.{waits}
use Rattle.compound_run.specs.Times.{first_access, first_modify}
use Rattle.compound_run.specs.Operations.Create as specs
use Rattle.compound_run.specs.Operations.Create.{Draft, can_add, created, list_at, making, with_created}
use Rattle.compound_run.specs.Lists.{new_fits, new_list}
use Rattle.compound_run.specs.Views.{OperationGives, realm_of, settings_of, stage, sense}
use Rattle.compound_run.proofs.Opening.{wanting}

pub world_created : {A : Type 0} (c : Context) (h : FileHandles) (v : Value create_args) (new : NewObject A) (m : Draft) (want : Wanted) (w : World) (d : ℕ) (a : At)
    → h.current ≡ Some d → specs.draft v ≡ m → specs.wanted c v ≡ want → a ≡ at c w
    → new.kind ≡ m.kind → new.bytes.items ≡ m.text → new.owner ≡ c.caller.uid → new.group ≡ unwrap_or want.group c.caller.gid
    → new.list ≡ new_list want m.kind (list_at w d) → new.high ≡ created_high want.mode
    → new.time_access ≡ first_access c.times c.now want.access → new.time_modify ≡ first_modify c.now want.modify
    → with_new w d (created_name v) (made new w.next_stamp a) a ≡ with_created c h v w
world_created c h v new m want w d a here is_draft is_wanted when kind bytes owner group list high access modify =
    (λ i. with_new w d (created_name v) (new_object (kind i) (bytes i) (owner i) (group i) (list i) (high i) (record { stamp = w.next_stamp; at = when i; access = access i; modify = modify i })) (when i))
    ∙ (λ i. with_new w (number_in (sym here i)) (created_name v) (created c (sym is_draft i) (sym is_wanted i) (list_at w (number_in (sym here i))) w.next_stamp (at c w)) (at c w))

-- A tick is left, and the access control list (ACL) is within its bounds. So the object and its name are created, or
-- there is no space for them, or an allocation fails.
module _ {A : Type 0} (room : ℕ) (c : Context) (h : FileHandles) (v : Value create_args) (e new : realms.Realm A) (out : Buffer) (d : ℕ)
    (left : has_left (sight_of e).next_tick ≡ true) (bounds : new_fits (specs.wanted c v) (specs.draft v).kind (list_at e.tree.world d) ≡ true) where
  fails : failure c.caller (sight_of e) (making v d c h).questions ≡ cond (can_add (sight_of e) d) None (Some statuses.NoSpc)
  fails = rw left (rw bounds refl)

  none_more : (can : Bool) → cond can [] [] ≡ (let none : List Line = [] in none)
  none_more true = refl
  none_more false = refl

  quiet : trace c.caller (making v d c h).number (sight_of e) (making v d c h).questions ≡ []
  quiet = rw left (rw bounds (none_more (can_add (sight_of e) d)))

  pub not_added : {T : Type 0} (status : Status) (r : Result T Status) → r ≡ Err status
      → (can_add (sight_of e) d ≡ false → r ≡ Err statuses.NoSpc) → (can_add (sight_of e) d ≡ true → IsOkUnless r statuses.Delay)
      → new ≡ e → OperationGives (sense true (making v d c h) waits) room h (stage e out) (Err status) (stage new out)
  not_added status r is full space stays = record {
    answered = record {
      outcome = λ other. ap (λ f. result_unless f ((making v d c h).answer (sight_of e))) (sym (fails ∙ wanting (can_add (sight_of e) d) status r is full space (λ same. other (ap (λ x. Err x) same))));
      log = λ other. ap (λ x. x.tree.log) stays ∙ ap (λ l. record e.tree.log { held = l }) (sym (append-nil e.tree.log.held)) ∙ ap (λ l. record e.tree.log { held = e.tree.log.held ++ l }) (sym quiet);
      trail_stays = λ d. ap (λ x. x.tree.log.trail) stays;
      total_stays = λ d. ap (λ x. x.tree.log.total) stays;
      realm = tt;
      handles = tt;
      realm_stays = ap realm_of stays;
      handles_stay = refl;
      settings = ap settings_of stays;
    };
    written = tt;
    within = tt;
    unwritten = refl;
  }
