-- The answer to an OPEN after its rows.
use Rattle.std.proofs.Common.{◌≡◌, ◌≢◌, ◌≤◌, ◌+◌, ◌∙◌, ℕ, Bool, true, false, ◌&&◌, cond, inl, List, refl, sym, ap, subst, append-nil, length}
use Rattle.std.specs.Prelude.{[], ◌∷◌, ◌++◌, Option, Some, None, Result, Ok, Err, IsOkUnless, unwrap_or}
use Rattle.xdr_wire.specs.Xdr.{Value}
use Rattle.xdr_wire.specs.Buffer.{Buffer, Appends}
use Rattle.nfs_types.specs.declared.status.Status.{Status}
use Rattle.nfs_types.specs.declared.status.Status.TheVariants as statuses
use Rattle.nfs_ops.specs.Forms.{change_info, open_args}
use Rattle.nfs_ops.specs.Results.{Done}
use Rattle.nfs_ops.specs.Rows.{row}
use Rattle.nfs_ops.specs.declared.OpKind.TheVariants as kinds
use Rattle.access_guard.specs.declared.line.Line.{Line}
use Rattle.compound_run.specs.declared.realm.Realm as realms
use Rattle.compound_run.specs.declared.filehandles.FileHandles.{FileHandles}
use Rattle.compound_run.specs.Asking.{sight_of}
use Rattle.compound_run.specs.Context.{Context}
use Rattle.compound_run.specs.Sight.{Sight}
use Rattle.compound_run.specs.Questions.{failure, trace, result_unless}
use Rattle.compound_run.specs.Meaning.{here}
use Rattle.nfs_types.specs.Sent.{Wanted}
use Rattle.nfs_types.specs.StateIds.{open_stateid}
use Rattle.nfs_ops.specs.Parts.{Claim, ByName, ByHandle, claim_of, open_owner}
use Rattle.node_tree.specs.declared.at.At.{At}
use Rattle.node_tree.specs.declared.node.NewObject.{NewObject}
use Rattle.node_tree.specs.World.{World}
use Rattle.node_tree.specs.Changes.{made, new_object, with_new}
use Rattle.compound_run.specs.declared.opens.Place.{Place}
use Rattle.compound_run.specs.declared.opens.Place.TheVariants as places
use Rattle.compound_run.specs.Realm.{Realm, Opened}
use Rattle.compound_run.specs.Meaning.{at}
use Rattle.compound_run.specs.Operations.Create.{created, list_at}
use Rattle.compound_run.specs.Lists.{IsFit}
use Rattle.compound_run.specs.Stateids.{client_of}
use Rattle.compound_run.specs.Operations.Open.{access_of, file_in, file_of, name_in, wanted, risen, with_reopened, with_open, stateid_of, found, opening, is_permitted, is_within, has_space_for, last_questions, result_on, opened_on, change_of}
use Rattle.compound_run.specs.Opening.{IsBefore, IsPlace, MakesFile, placed, placed_stateid}
use Rattle.compound_run.specs.Runs.{spelled, waits}
use Rattle.compound_run.specs.Views.{OperationGives, realm_of, settings_of, stage, sense}

-- ---- the outcome of the last questions

no_lines : (permitted within space : Bool) → cond permitted (cond within (cond space [] []) []) [] ≡ (let none : List Line = [] in none)
no_lines true true true = refl
no_lines true true false = refl
no_lines true false space = refl
no_lines false within space = refl

module _ (v : Value open_args) (c : Context) (h : FileHandles) (s : Sight) where
  quiet : trace c.caller (row kinds.Open).number s (last_questions v c h) ≡ []
  quiet = no_lines (is_permitted c v (found v h s)) (is_within s.limits c v (found v h s)) (has_space_for c v (here h) (found v h s) s)

  module _ (t : Option ℕ) (is : found v h s ≡ t) where
    pub fails_by : (permitted within space : Bool) → is_permitted c v t ≡ permitted → is_within s.limits c v t ≡ within → has_space_for c v (here h) t s ≡ space
        → failure c.caller s (last_questions v c h) ≡ cond permitted (cond within (cond space None (Some statuses.NoSpc)) (Some statuses.FBig)) (Some statuses.Perm)
    fails_by permitted within space p w q =
        λ i. cond ((ap (is_permitted c v) is ∙ p) i)
        (cond ((ap (is_within s.limits c v) is ∙ w) i) (cond ((ap (λ x. has_space_for c v (here h) x s) is ∙ q) i) None (Some statuses.NoSpc)) (Some statuses.FBig)) (Some statuses.Perm)

-- ---- the answers to an OPEN

module _ {A : Type 0} (room : ℕ) (v : Value open_args) (c : Context) (h : FileHandles) (e new : realms.Realm A) (before : Buffer) where
  -- OPEN is refused, or delayed, and nothing has changed
  pub refused : (status : Status) → realm_of new ≡ realm_of e → new.tree.log ≡ e.tree.log → settings_of new ≡ settings_of e
      → (status ≢ statuses.Delay → failure c.caller (sight_of e) (last_questions v c h) ≡ Some status)
      → OperationGives (sense true (opening v c h) waits) room h (stage e before) (Err status) (stage new before)
  refused status realm log settings fails = record {
    answered = record {
      outcome = λ other. ap (λ f. result_unless f ((opening v c h).answer (sight_of e))) (sym (fails (λ same. other (ap (λ x. Err x) same))));
      log = λ other. log ∙ ap (λ l. record e.tree.log { held = l }) (sym (append-nil e.tree.log.held)) ∙ ap (λ l. record e.tree.log { held = e.tree.log.held ++ l }) (sym (quiet v c h (sight_of e)));
      trail_stays = λ d. ap (λ l. l.trail) log;
      total_stays = λ d. ap (λ l. l.total) log;
      realm = tt;
      handles = tt;
      realm_stays = realm;
      handles_stay = refl;
      settings = settings;
    };
    written = tt;
    within = tt;
    unwritten = refl;
  }

  -- the file is open
  pub given : (t : Option ℕ) (after : Buffer) → found v h (sight_of e) ≡ t → is_permitted c v t ≡ true → is_within e.tree.world.limits c v t ≡ true → has_space_for c v (here h) t (sight_of e) ≡ true
      → realm_of new ≡ opened_on c v (here h) t (realm_of e) → new.tree.log ≡ e.tree.log → settings_of new ≡ settings_of e
      → Appends before after (spelled (Done kinds.Open (result_on c v (here h) t (sight_of e)))) → length after.bytes ≤ length before.bytes + room
      → OperationGives (sense true (opening v c h) waits) room h (stage e before) (Ok (record h { current = Some (unwrap_or t e.tree.world.next_number) })) (stage new after)
  given t after is permitted within space realm log settings written short = record {
    answered = record {
      outcome = λ other. ap (λ f. result_unless f ((opening v c h).answer (sight_of e))) (sym (fails_by v c h (sight_of e) t is true true true permitted within space));
      log = λ other. log ∙ ap (λ l. record e.tree.log { held = l }) (sym (append-nil e.tree.log.held)) ∙ ap (λ l. record e.tree.log { held = e.tree.log.held ++ l }) (sym (quiet v c h (sight_of e)));
      trail_stays = λ d. ap (λ l. l.trail) log;
      total_stays = λ d. ap (λ l. l.total) log;
      realm = realm ∙ ap (λ x. opened_on c v (here h) x (realm_of e)) (sym is);
      handles = ap (λ x. record h { current = Some (unwrap_or x e.tree.world.next_number) }) (sym is);
      realm_stays = tt;
      handles_stay = tt;
      settings = settings;
    };
    written = subst (λ (x : Option ℕ). Appends before after (spelled (Done kinds.Open (result_on c v (here h) x (sight_of e))))) (sym is) written;
    within = short;
    unwritten = tt;
  }

-- ---- the place

module _ {A : Type 0} (c : Context) (v : Value open_args) (file : ℕ) where
  placed_is : (j : Option Opened) (place : Place A) (r : Realm) (w : World) → IsPlace (open_owner v) j place → placed c (access_of v) file place (record r { world = w }) ≡ record (with_open c v file j r) { world = w }
  placed_is (Some o) (places.Again number seqid) r w is = ap (λ n. record r { world = w; opens = with_reopened n (access_of v) r.opens }) is.0
  placed_is (Some o) (places.New bytes) r w is = absurd is
  placed_is None (places.Again number seqid) r w is = absurd is
  placed_is None (places.New bytes) r w is =
      ap (λ b. record r { world = w; opens = r.opens ++ record { number = r.next_open; client = client_of c; owner = b; object = file; access = access_of v; seqid = 1 } ∷ []; next_open = r.next_open + 1 }) is

  pub placed_stateid_is : (j : Option Opened) (place : Place A) (next : ℕ) → IsPlace (open_owner v) j place → placed_stateid place next ≡ stateid_of j next
  placed_stateid_is (Some o) (places.Again number seqid) next is = λ i. open_stateid (risen (is.1 i)) (is.0 i)
  placed_stateid_is (Some o) (places.New bytes) next is = absurd is
  placed_stateid_is None (places.Again number seqid) next is = absurd is
  placed_stateid_is None (places.New bytes) next is = refl

  pub realm_placed : (j : Option Opened) (place : Place A) (r mid new : Realm) (w : World) → IsPlace (open_owner v) j place → new ≡ placed c (access_of v) file place mid → mid ≡ record r { world = w }
      → new ≡ record (with_open c v file j r) { world = w }
  realm_placed j place r mid new w is put mids = put ∙ ap (placed c (access_of v) file place) mids ∙ placed_is j place r w is

-- ---- refusals

same_error : {T : Type 0} (a b : Status) (r : Result T Status) → r ≡ Err a → r ≡ Err b → a ≡ b
same_error a b r p q = let same = sym p ∙ q in cc

delayed : {T : Type 0} (a b : Status) (r : Result T Status) → r ≡ Err a → IsOkUnless r b → a ≡ b
delayed {T} a b r is unless = subst (λ (x : Result T Status). IsOkUnless x b) is unless

-- the refusal is because there is no space, or because an allocation failed
pub wanting : {T : Type 0} (space : Bool) (status : Status) (r : Result T Status) → r ≡ Err status → (space ≡ false → r ≡ Err statuses.NoSpc) → (space ≡ true → IsOkUnless r statuses.Delay)
    → status ≢ statuses.Delay → cond space None (Some statuses.NoSpc) ≡ Some status
wanting true status r is full may other = absurd (other (delayed status statuses.Delay r is (may refl)))
wanting false status r is full may other = ap (λ x. Some x) (same_error statuses.NoSpc status r (full refl) is)

pub there_is : {T : Type 0} (space : Bool) (x : T) (r : Result T Status) → r ≡ Ok x → (space ≡ false → r ≡ Err statuses.NoSpc) → space ≡ true
there_is true x r is full = refl
there_is false x r is full = absurd (apart (sym is ∙ full refl))
  where
    apart : Ok x ≡ Err statuses.NoSpc → ⊥
    apart h = cc

-- ---- a file that is created

pub file_made : {A : Type 0} (c : Context) (v : Value open_args) (new : NewObject A) (want : Wanted) (w : World) (d : ℕ) (name : List ℕ) (a : At) → claim_of v ≡ ByName name → wanted c v ≡ want → a ≡ at c w
    → MakesFile c.times c.now c.caller w.limits (list_at w d) want new → with_new w d name (made new w.next_stamp a) a ≡ file_in c v d None w
file_made c v new want w d name a claims is_wanted when m =
    (λ i. with_new w d (name_in (sym claims i)) (new_object (m.kind i) (m.bytes i) (m.owner i) (m.group i) (m.list i) (m.high i) (record { stamp = w.next_stamp; at = when i; access = m.access i; modify = m.modify i })) (when i))
    ∙ (λ i. with_new w d (name_in (claim_of v)) (created c (file_of (sym is_wanted i)) (sym is_wanted i) (list_at w d) w.next_stamp (at c w)) (at c w))

-- ---- the result

pub change_kept : (claim : Claim) (h : FileHandles) (s : Sight) (before file : ℕ) → IsBefore claim s h before → (let result_unless : Value change_info = (inl tt, (before, before)) in result_unless) ≡ change_of claim (here h) (Some file) s
change_kept (ByName name) h s before file is = λ i. (inl tt, (sym is i, sym is i))
change_kept ByHandle h s before file is = λ i. (inl tt, (sym is i, sym is i))

pub left_is : (b : Bool) (x y : At) → cond b (Some x) None ≡ Some y → b ≡ true
left_is true x y h = refl
left_is false x y h = cc

pub space_new : (left fits can more : Bool) → left ≡ true → fits ≡ true → more ≡ true → (left && (fits && can)) && more ≡ can
space_new left fits true more l f m = rw l (rw f m)
space_new left fits false more l f m = rw l (rw f refl)

pub no_space_new : (left fits can more : Bool) → left ≡ true → fits ≡ false → (left && (fits && can)) && more ≡ false
no_space_new left fits can more l f = rw l (rw f refl)

-- there is no space for an open, so the space for other things doesn't matter
pub no_open_more : (b more : Bool) (status : Status) → cond more None (Some statuses.NoSpc) ≡ Some status → cond (b && more) None (Some statuses.NoSpc) ≡ Some status
no_open_more true more status h = h
no_open_more false true status h = cc
no_open_more false false status h = h

-- the access control list of the new file would exceed its bounds
pub unfit : {T : Type 0} (fits : Bool) (status : Status) (r : Result T Status) → r ≡ Err status → IsFit fits r → status ≢ statuses.Delay → (statuses.NoSpc ≡ status) × (fits ≡ false)
unfit {T} fits status r is fit other =
    let of : (status ≡ statuses.NoSpc) × (fits ≡ false) = subst (λ (x : Result T Status). IsFit fits x) is fit other in
    (sym of.0, of.1)

pub some_is : (b : Bool) (x y : At) → cond b (Some x) None ≡ Some y → y ≡ x
some_is true x y h = let same : x ≡ y = cc in sym same
some_is false x y h = cc

pub change_made : (claim : Claim) (name : List ℕ) (directory : ℕ) (s : Sight) (before tick : ℕ) → claim ≡ ByName name → before ≡ s.changes directory → tick ≡ s.next_tick
    → (let result_unless : Value change_info = (inl tt, (before, tick)) in result_unless) ≡ change_of claim directory None s
change_made claim name directory s before tick claims is when =
    (λ i. (inl tt, (is i, when i))) ∙ ap (λ x. change_of x directory None s) (sym claims)
