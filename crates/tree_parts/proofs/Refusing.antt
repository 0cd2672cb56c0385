-- A part encodes one object, or one name: if it is refused, it can't be taken.
use Rattle.std.proofs.Common.{◌≡◌, ℕ, ℤ, List, true, refl, ap, sym, ◌∙◌, Some, None, Ok, Err, inl, inr}
use Rattle.std.specs.Prelude.{Option, Result, IsOkUnless, IfNone, unwrap_or}
use Rattle.std.specs.Option.{option_map}
use Rattle.nfs_types.specs.Forms.{time}
use Rattle.nfs_types.specs.Limits.{Limits}
use Rattle.nfs_types.specs.MomentView.{moment_value}
use Rattle.nfs_types.specs.declared.moment.Moment.{Moment}
use Rattle.node_tree.specs.World.{Object, Name}
use Rattle.node_tree.specs.Restored.{Begun, object_fits, more_fits, name_fits}
use Rattle.node_tree.specs.declared.restoring.RestoreFault.{RestoreFault}
use Rattle.node_tree.specs.declared.restoring.RestoreFault.TheVariants.{Unsound, Memory}
use Rattle.tree_parts.specs.Forms as forms
use Rattle.xdr_wire.specs.Xdr.{Value}
use Rattle.tree_parts.specs.Parts as parts
use Rattle.tree_parts.specs.Parts.{part, plain_value, accessed_value, object_value, name_value, rest_value}
use Rattle.tree_parts.specs.Taken.{Takes}
use Rattle.tree_parts.proofs.Telling.{kind_in, kind_again, list_in, list_again, same_moment}
use Rattle.tree_parts.proofs.Writing.{same_object}

pub if_none : {X P : Type 0} (r : Option X) → P → IfNone r P
if_none None p = p
if_none (Some x) p = tt

abbrev written_object : Value parts.object → Value part → Value parts.object
written_object d (inl v) = d
written_object d (inr (inl v)) = v
written_object d (inr (inr (inl v))) = d
written_object d (inr (inr (inr (inl v)))) = d
written_object d (inr (inr (inr (inr (inl v))))) = v.1
written_object d (inr (inr (inr (inr (inr more))))) = d

abbrev written_access : Value part → Option (Value time)
written_access (inl v) = None
written_access (inr (inl v)) = None
written_access (inr (inr (inl v))) = None
written_access (inr (inr (inr (inl v)))) = None
written_access (inr (inr (inr (inr (inl v))))) = Some v.0
written_access (inr (inr (inr (inr (inr more))))) = None

abbrev written_name : Value parts.entry_name → Value part → Value parts.entry_name
written_name d (inl v) = d
written_name d (inr (inl v)) = d
written_name d (inr (inr (inl v))) = v
written_name d (inr (inr (inr more))) = d

plain_again : (d : Value parts.object) (access : Option (Value time)) (v : Value parts.object) → written_object d (accessed_value access v) ≡ v
plain_again d None v = refl
plain_again d (Some access) v = refl

access_again : (access : Option (Value time)) (v : Value parts.object) → written_access (accessed_value access v) ≡ access
access_again None v = refl
access_again (Some access) v = refl

-- a value of two parts has one object, and one time of the last access
plain_one : (a b : Option (Value time)) (v w : Value parts.object) → accessed_value a v ≡ accessed_value b w → v ≡ w
plain_one a b v w h = sym (plain_again v a v) ∙ ap (written_object v) h ∙ plain_again v b w

access_one : (a b : Option (Value time)) (v w : Value parts.object) → accessed_value a v ≡ accessed_value b w → a ≡ b
access_one a b v w h = sym (access_again a v) ∙ ap written_access h ∙ access_again b w

same_access : (a b : Option Moment) → option_map moment_value a ≡ option_map moment_value b → a ≡ b
same_access None None h = refl
same_access None (Some n) h = cc
same_access (Some m) None h = cc
same_access (Some m) (Some n) h = ap Some (same_moment m n (ap (λ o. (unwrap_or o (moment_value m)).0) h) (ap (λ o. (unwrap_or o (moment_value m)).1) h))

-- a time that is no moment is that of no object
pub no_access : (written : Value time) (given : Option (Value time)) → given ≡ Some written → ((moment : Moment) → moment_value moment ≡ written → ⊥) → (access : Option Moment) → option_map moment_value access ≡ given → ⊥
no_access written given is unheard None h = let none : None ≡ Some written = h ∙ is in cc
no_access written given is unheard (Some m) h = unheard m (ap (λ o. unwrap_or o written) (h ∙ is))

-- two parts of one value encode one number and one object
pub object_one : (j k : ℕ) (o p : Object) → object_value j o ≡ object_value k p → (j ≡ k) × (o ≡ p)
object_one j k o p h =
    let a = option_map moment_value o.time_access in
    let b = option_map moment_value p.time_access in
    let plain : plain_value j o ≡ plain_value k p = plain_one a b (plain_value j o) (plain_value k p) h in
    let access : a ≡ b = access_one a b (plain_value j o) (plain_value k p) h in (
      ap (λ (v : Value parts.object). v.0) plain,
      same_object o p
          (sym (kind_again o.kind) ∙ ap (λ (v : Value parts.object). kind_in v.1.0.0) plain ∙ kind_again p.kind)
          (ap (λ (v : Value parts.object). v.1.0.1.0) plain)
          (ap (λ (v : Value parts.object). v.1.0.1.1.0) plain)
          (ap (λ (v : Value parts.object). v.1.0.1.1.1.0) plain)
          (sym (list_again o.list) ∙ ap (λ (v : Value parts.object). list_in v.1.0.1.1.1.1.0) plain ∙ list_again p.list)
          (ap (λ (v : Value parts.object). v.1.0.1.1.1.1.1) plain)
          (ap (λ (v : Value parts.object). v.1.1.0) plain)
          (same_access o.time_access p.time_access access)
          (same_moment o.time_modify p.time_modify (ap (λ (v : Value parts.object). v.1.1.1.0.0) plain) (ap (λ (v : Value parts.object). v.1.1.1.0.1) plain))
          (same_moment o.time_metadata p.time_metadata (ap (λ (v : Value parts.object). v.1.1.1.1.0.0) plain) (ap (λ (v : Value parts.object). v.1.1.1.1.0.1) plain))
          (ap (λ (v : Value parts.object). v.1.1.1.1.1) plain),
    )

abbrev name_in : Value parts.entry_name → Name
name_in v = record { cookie = v.0; directory = v.1.0; name = v.1.1.0; child = v.1.1.1 }

name_one : (m n : Name) → name_value m ≡ name_value n → m ≡ n
name_one m n h = ap (λ v. name_in (written_name (m.cookie, (m.directory, (m.name, m.child))) v)) h

never : (r : Result Begun RestoreFault) → r ≡ Err Unsound → IsOkUnless r Memory → ⊥
never (Ok b) is h = cc
never (Err Unsound) is h = cc
never (Err Memory) is h = cc

-- the object that was taken from a value
pub record TakenFrom (old : Begun) (access : Option (Value time)) (v : Value parts.object) : Type 0 where
  pub number : ℕ
  pub o : Object
  pub written : object_value number o ≡ accessed_value access v
  pub fits : object_fits old number o ≡ true

taken_from : (old : Begun) (access : Option (Value time)) (v : Value parts.object) (l : Limits) (more : Begun) → Takes l (Some old) (accessed_value access v) more → TakenFrom old access v
taken_from old None v l more (k, p, written, fits, new) = record { number = k; o = p; written = written; fits = fits }
taken_from old (Some access) v l more (k, p, written, fits, new) = record { number = k; o = p; written = written; fits = fits }

pub object_refused : (r : Result Begun RestoreFault) (old : Begun) (number : ℕ) (o : Object) (access : Option (Value time)) (v : Value parts.object) → (object_fits old number o ≡ true → IsOkUnless r Memory)
    → object_value number o ≡ accessed_value access v → r ≡ Err Unsound → (l : Limits) (more : Begun) → Takes l (Some old) (accessed_value access v) more → ⊥
object_refused r old number o access v taken is bad l more takes =
    let t = taken_from old access v l more takes in
    let one = object_one t.number number t.o o (t.written ∙ sym is) in
    never r bad (taken (ap (λ q. object_fits old q o) (sym one.0) ∙ ap (object_fits old t.number) (sym one.1) ∙ t.fits))

-- an object with a time that is no moment
pub object_unheard : (old : Begun) (access : Option (Value time)) (number : ℕ) (v : Value forms.new_object) (last : ℕ × ((ℤ × ℕ) × ((ℤ × ℕ) × ℕ))) → ((change : ℕ) (last' : Option Moment) (modify metadata : Moment) (stamp : ℕ) → option_map moment_value last' ≡ access → (change, (moment_value modify, (moment_value metadata, stamp))) ≡ last → ⊥)
    → (l : Limits) (more : Begun) → Takes l (Some old) (accessed_value access (number, (v, last))) more → ⊥
object_unheard old access number v last unheard l more takes =
    let t = taken_from old access (number, (v, last)) l more takes in
    let p = t.o in
    unheard p.change p.time_access p.time_modify p.time_metadata p.stamp
    (access_one (option_map moment_value p.time_access) access (plain_value t.number p) (number, (v, last)) t.written)
    (ap (λ (w : Value parts.object). w.1.1) (plain_one (option_map moment_value p.time_access) access (plain_value t.number p) (number, (v, last)) t.written))

pub name_refused : (r : Result Begun RestoreFault) (old : Begun) (n : Name) → (name_fits old n ≡ true → IsOkUnless r Memory) → r ≡ Err Unsound → (l : Limits) (more : Begun) → Takes l (Some old) (name_value n) more → ⊥
name_refused r old n taken bad l more (m, written, fits, new) = never r bad (taken (ap (name_fits old) (sym (name_one m n written)) ∙ fits))

pub rest_refused : (r : Result Begun RestoreFault) (old : Begun) (number offset : ℕ) (bytes : List ℕ) → (more_fits old number offset bytes ≡ true → IsOkUnless r Memory) → r ≡ Err Unsound
    → (l : Limits) (more : Begun) → Takes l (Some old) (rest_value number offset bytes) more → ⊥
rest_refused r old number offset bytes taken bad l more (fits, new) = never r bad (taken fits)
