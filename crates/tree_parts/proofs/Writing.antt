-- The parts of a tree as they are written, and as they are taken again.
use Rattle.std.proofs.Common.{◌≡◌, ℕ, true, false, List, [], refl, ap, sym, ◌∙◌, subst, None, Some, Ok, Err}
use Rattle.std.specs.Prelude.{Option, Result, IfSome, IfOk}
use Rattle.std.specs.Option.{option_map_or}
use Rattle.acl_list.specs.declared.entry.Kind.{Kind}
use Rattle.acl_list.specs.declared.entry.Entry.{Entry}
use Rattle.nfs_types.specs.declared.moment.Moment.{Moment}
use Rattle.node_tree.specs.World.{World, Object, Name, object, bytes_of}
use Rattle.nfs_types.specs.Limits.{Limits}
use Rattle.node_tree.specs.Restored.{Begun, with_object, with_more, with_name, object_fits, more_fits, name_fits}
use Rattle.node_tree.specs.declared.restoring.RestoreFault.{RestoreFault}
use Rattle.node_tree.specs.declared.restoring.RestoreFault.TheVariants.{Unsound}
use Rattle.nfs_types.specs.Forms.{time}
use Rattle.xdr_wire.specs.Xdr.{Value}
use Rattle.tree_parts.specs.Parts.{object as object_form, accessed_value, object_value, name_value, rest_value, piece}
use Rattle.tree_parts.specs.Taken.{Takes}

-- the bytes of an object
bytes_are : (w : World) (number : ℕ) (o : Object) → Some o ≡ object w number → bytes_of w number ≡ o.bytes
bytes_are w number o is = ap (λ (x : Option Object). option_map_or (λ (o : Object). o.bytes) x []) (sym is)

pub of_object : (w : World) (number : ℕ) (o : Object) (bytes : List ℕ) (P : Object → Type 0) → Some o ≡ object w number → bytes ≡ piece (bytes_of w number) 0 → P (record o { bytes = bytes }) → IfSome (object w number) (λ o. P (record o { bytes = piece o.bytes 0 }))
of_object w number o bytes P is same h =
    subst (λ (x : Option Object). IfSome x (λ (o : Object). P (record o { bytes = piece o.bytes 0 }))) is
    (subst (λ (b : List ℕ). P (record o { bytes = b })) (same ∙ ap (λ (b : List ℕ). piece b 0) (bytes_are w number o is)) h)

-- objects with the same fields are equal
pub same_object : (o p : Object) → o.kind ≡ p.kind → o.bytes ≡ p.bytes → o.owner ≡ p.owner → o.group ≡ p.group → o.list ≡ p.list → o.high ≡ p.high → o.change ≡ p.change → o.time_access ≡ p.time_access → o.time_modify ≡ p.time_modify → o.time_metadata ≡ p.time_metadata → o.stamp ≡ p.stamp → o ≡ p
same_object o p kind_is bytes_is owner_is group_is list_is high_is change_is time_access_is time_modify_is time_metadata_is stamp_is =
    ap (λ (x : Kind). let y : Object = record { kind = x; bytes = o.bytes; owner = o.owner; group = o.group; list = o.list; high = o.high; change = o.change; time_access = o.time_access; time_modify = o.time_modify; time_metadata = o.time_metadata; stamp = o.stamp } in y) kind_is
    ∙ ap (λ (x : List ℕ). let y : Object = record { kind = p.kind; bytes = x; owner = o.owner; group = o.group; list = o.list; high = o.high; change = o.change; time_access = o.time_access; time_modify = o.time_modify; time_metadata = o.time_metadata; stamp = o.stamp } in y) bytes_is
    ∙ ap (λ (x : ℕ). let y : Object = record { kind = p.kind; bytes = p.bytes; owner = x; group = o.group; list = o.list; high = o.high; change = o.change; time_access = o.time_access; time_modify = o.time_modify; time_metadata = o.time_metadata; stamp = o.stamp } in y) owner_is
    ∙ ap (λ (x : ℕ). let y : Object = record { kind = p.kind; bytes = p.bytes; owner = p.owner; group = x; list = o.list; high = o.high; change = o.change; time_access = o.time_access; time_modify = o.time_modify; time_metadata = o.time_metadata; stamp = o.stamp } in y) group_is
    ∙ ap (λ (x : List Entry). let y : Object = record { kind = p.kind; bytes = p.bytes; owner = p.owner; group = p.group; list = x; high = o.high; change = o.change; time_access = o.time_access; time_modify = o.time_modify; time_metadata = o.time_metadata; stamp = o.stamp } in y) list_is
    ∙ ap (λ (x : ℕ). let y : Object = record { kind = p.kind; bytes = p.bytes; owner = p.owner; group = p.group; list = p.list; high = x; change = o.change; time_access = o.time_access; time_modify = o.time_modify; time_metadata = o.time_metadata; stamp = o.stamp } in y) high_is
    ∙ ap (λ (x : ℕ). let y : Object = record { kind = p.kind; bytes = p.bytes; owner = p.owner; group = p.group; list = p.list; high = p.high; change = x; time_access = o.time_access; time_modify = o.time_modify; time_metadata = o.time_metadata; stamp = o.stamp } in y) change_is
    ∙ ap (λ (x : Option Moment). let y : Object = record { kind = p.kind; bytes = p.bytes; owner = p.owner; group = p.group; list = p.list; high = p.high; change = p.change; time_access = x; time_modify = o.time_modify; time_metadata = o.time_metadata; stamp = o.stamp } in y) time_access_is
    ∙ ap (λ (x : Moment). let y : Object = record { kind = p.kind; bytes = p.bytes; owner = p.owner; group = p.group; list = p.list; high = p.high; change = p.change; time_access = p.time_access; time_modify = x; time_metadata = o.time_metadata; stamp = o.stamp } in y) time_modify_is
    ∙ ap (λ (x : Moment). let y : Object = record { kind = p.kind; bytes = p.bytes; owner = p.owner; group = p.group; list = p.list; high = p.high; change = p.change; time_access = p.time_access; time_modify = p.time_modify; time_metadata = x; stamp = o.stamp } in y) time_metadata_is
    ∙ ap (λ (x : ℕ). let y : Object = record { kind = p.kind; bytes = p.bytes; owner = p.owner; group = p.group; list = p.list; high = p.high; change = p.change; time_access = p.time_access; time_modify = p.time_modify; time_metadata = p.time_metadata; stamp = x } in y) stamp_is

-- ---- what is taken

-- An object is taken from its value, whether or not it has a time of the last access.
pub object_takes : (old new : Begun) (number : ℕ) (o : Object) (access : Option (Value time)) (v : Value object_form) → object_value number o ≡ accessed_value access v → object_fits old number o ≡ true → new ≡ with_object old number o
    → (l : Limits) → Takes l (Some old) (accessed_value access v) new
object_takes old new number o None v is fits taken l = (number, o, is, fits, taken)
object_takes old new number o (Some access) v is fits taken l = (number, o, is, fits, taken)

pub object_taken : (r : Result Begun RestoreFault) (old : Begun) (number : ℕ) (o : Object) (access : Option (Value time)) (v : Value object_form) → IfOk r (λ b. b ≡ with_object old number o) → (object_fits old number o ≡ false → r ≡ Err Unsound)
    → object_value number o ≡ accessed_value access v → (l : Limits) → IfOk r (λ more. Takes l (Some old) (accessed_value access v) more)
object_taken (Err e) old number o access v ok refused is l = tt
object_taken (Ok b) old number o access v ok refused is l = object_takes old b number o access v is fits ok l
  where
    fits : object_fits old number o ≡ true
    fits = elim (object_fits old number o) as (λ t. object_fits old number o ≡ t → t ≡ true) [ true ↦ λ _. refl | false ↦ λ no. let f : Ok b ≡ Err Unsound = refused no in cc ] refl

pub name_taken : (r : Result Begun RestoreFault) (old : Begun) (n : Name) → IfOk r (λ b. b ≡ with_name old n) → (name_fits old n ≡ false → r ≡ Err Unsound) → (l : Limits) → IfOk r (λ more. Takes l (Some old) (name_value n) more)
name_taken (Err e) old n ok refused l = tt
name_taken (Ok b) old n ok refused l = (n, refl, fits, ok)
  where
    fits : name_fits old n ≡ true
    fits = elim (name_fits old n) as (λ t. name_fits old n ≡ t → t ≡ true) [ true ↦ λ _. refl | false ↦ λ no. let f : Ok b ≡ Err Unsound = refused no in cc ] refl

pub rest_taken : (r : Result Begun RestoreFault) (old : Begun) (number offset : ℕ) (bytes : List ℕ) → IfOk r (λ b. b ≡ with_more old number offset bytes) → (more_fits old number offset bytes ≡ false → r ≡ Err Unsound)
    → (l : Limits) → IfOk r (λ more. Takes l (Some old) (rest_value number offset bytes) more)
rest_taken (Err e) old number offset bytes ok refused l = tt
rest_taken (Ok b) old number offset bytes ok refused l = (fits, ok)
  where
    fits : more_fits old number offset bytes ≡ true
    fits = elim (more_fits old number offset bytes) as (λ t. more_fits old number offset bytes ≡ t → t ≡ true) [ true ↦ λ _. refl | false ↦ λ no. let f : Ok b ≡ Err Unsound = refused no in cc ] refl
