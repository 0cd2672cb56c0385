-- CREATE (RFC 8881, section 18.4): creates a directory or a symbolic link in the current directory. It becomes the
-- current filehandle.
use Rattle.std.specs.Prelude.{ℕ, nat_lt, ◌==◌, ◌&&◌, Bool, true, false, if◌then◌else◌, List, [], ◌∷◌, length, is_some}
use Rattle.std.specs.Prelude.{unwrap_or, Option, Some, None, Result, Ok, Err}
use Rattle.std.specs.Option.{option_map_or}
use Rattle.xdr_wire.specs.Xdr.{Value}
use Rattle.rpc_record.specs.Identity.{Identity, is_member}
use Rattle.acl_list.specs.declared.entry.Entry.{Entry}
use Rattle.acl_list.specs.declared.entry.Kind.{Kind}
use Rattle.acl_list.specs.declared.entry.Kind.TheVariants as kinds
use Rattle.acl_shape.specs.Permissions.{created_high}
use Rattle.nfs_types.specs.declared.status.Status.{Status}
use Rattle.nfs_types.specs.declared.status.Status.TheVariants as statuses
use Rattle.nfs_types.specs.Sent.{Wanted, nothing, wanted_of}
use Rattle.nfs_ops.specs.Forms.{create_args}
use Rattle.nfs_ops.specs.Operations.{Known}
use Rattle.nfs_ops.specs.Parts as parts
use Rattle.nfs_ops.specs.Parts.{Created, created_type, created_name, created_attributes, set_of, values_of}
use Rattle.nfs_ops.specs.declared.OpKind.TheVariants as ops
use Rattle.nfs_ops.specs.Rows.{row}
use Rattle.nfs_ops.specs.Results.{Done}
use Rattle.node_tree.specs.declared.at.At.{At}
use Rattle.node_tree.specs.Limits.{MAX_TEXT}
use Rattle.node_tree.specs.World.{World, Object}
use Rattle.node_tree.specs.Changes.{new_object, with_new}
use Rattle.node_tree.specs.Judged.{judged_of}
use Rattle.node_tree.specs.Refusals.{may_add}
use Rattle.compound_run.specs.declared.filehandles.FileHandles.{FileHandles}
use Rattle.compound_run.specs.Context.{Context}
use Rattle.compound_run.specs.Sight.{Sight}
use Rattle.compound_run.specs.Faults.{MayFault, fault_in, fault_in_may}
use Rattle.compound_run.specs.ArgumentFaults.{wanted_may}
use Rattle.compound_run.specs.Lists.{new_list, new_fits}
use Rattle.compound_run.specs.Times.{first_access, first_modify}
use Rattle.compound_run.specs.Values as values
use Rattle.compound_run.specs.Questions.{Holds, is_valid}
use Rattle.compound_run.specs.Rows.{first_row}
use Rattle.compound_run.specs.Meaning.{Meaning, at, in_world, changed, with_handle, here, names_at, is_link}
use Rattle.compound_run.specs.Meaning.{is_directory, is_name, has_no_child, has_space}

-- the object to create: a directory, or a symbolic link with its text; no other type is supported
pub record Draft : Type 0 where
  pub kind : Kind
  pub text : List ℕ

abbrev pub draft_of : Created → Option Draft
draft_of parts.Directory = Some (record { kind = kinds.Directory; text = [] })
draft_of (parts.Link text) = Some (record { kind = kinds.Link; text = text })
draft_of _ = None

-- only these types are supported
abbrev pub type_fault : Option Draft → Option Status
type_fault (Some draft) = None
type_fault None = Some statuses.BadType

pub type_may : (made : Option Draft) → MayFault (type_fault made)
type_may (Some draft) = tt
type_may None = tt

abbrev pub draft : Value create_args → Draft
draft v = unwrap_or (draft_of (created_type v)) (record { kind = kinds.Directory; text = [] })

-- a link's text is neither empty nor too long
abbrev pub link_fault : List ℕ → Option Status
link_fault text =
    if length text == 0 then Some statuses.Inval
    else if nat_lt MAX_TEXT (length text) then Some statuses.NameTooLong
    else None

abbrev pub text_fault : Draft → Option Status
text_fault draft = if is_link draft.kind then link_fault draft.text else None

pub text_may : (draft : Draft) → MayFault (text_fault draft)
text_may draft = of (is_link draft.kind) (length draft.text == 0) (nat_lt MAX_TEXT (length draft.text))
  where
    of : (a b c : Bool)
        → MayFault
        (if a then (if b then Some statuses.Inval else if c then Some statuses.NameTooLong else None) else None)
    of true true c = tt
    of true false true = tt
    of true false false = tt
    of false b c = tt

-- the values that the attributes set, or their fault
abbrev pub sent : Context → Value create_args → Result Wanted Status
sent c v = wanted_of c.times c.book (draft v).kind (set_of (created_attributes v)) (values_of (created_attributes v))

pub sent_may : (c : Context) (v : Value create_args) → MayFault (fault_in (sent c v))
sent_may c v =
    fault_in_may (sent c v)
    (wanted_may c.times c.book (draft v).kind (set_of (created_attributes v)) (values_of (created_attributes v)))

abbrev pub wanted_in : Result Wanted Status → Wanted
wanted_in (Ok wanted) = wanted
wanted_in (Err status) = nothing

abbrev pub wanted : Context → Value create_args → Wanted
wanted c v = wanted_in (sent c v)

-- the size of an object that isn't a file can't be set
abbrev pub size_fault : Wanted → Option Status
size_fault wanted = if is_some wanted.size then Some statuses.Inval else None

pub size_may : (wanted : Wanted) → MayFault (size_fault wanted)
size_may wanted = of (is_some wanted.size)
  where
    of : (b : Bool) → MayFault (if b then Some statuses.Inval else None)
    of true = tt
    of false = tt

-- the owner that is set must be the caller, and the group one of the caller's
abbrev pub is_own : Identity → Wanted → Bool
is_own caller wanted =
    option_map_or (λ owner. owner == caller.uid) wanted.owner true && option_map_or (is_member caller) wanted.group true

-- one more name and object are within the limits, and a number, a stamp and a cookie are left for them
abbrev pub can_add : Sight → ℕ → Bool
can_add s directory =
    may_add s.limits (names_at s directory) s.object_count s.next_number s.next_stamp s.next_cookie

-- the new object is within the limits, and its access control list (ACL) within its bounds
abbrev pub can_make : Wanted → Kind → Sight → ℕ → Bool
can_make wanted kind s directory = new_fits wanted kind (values.list_at s directory) && can_add s directory

-- the new object, in a directory with this ACL
abbrev pub created : Context → Draft → Wanted → List Entry → ℕ → At → Object
created c draft wanted parent stamp at =
    new_object draft.kind draft.text c.caller.uid (unwrap_or wanted.group c.caller.gid)
    (new_list wanted draft.kind parent) (created_high wanted.mode) (record {
      stamp = stamp;
      at = at;
      access = first_access c.times c.now wanted.access;
      modify = first_modify c.now wanted.modify;
    })

-- the ACL of an object, empty if the object doesn't exist
abbrev pub list_at : World → ℕ → List Entry
list_at w number = option_map_or (λ j. j.list) (judged_of w number) []

-- the world with the new object
abbrev pub with_created : Context → FileHandles → Value create_args → World → World
with_created c h v w =
    with_new w (here h) (created_name v) (created c (draft v) (wanted c v) (list_at w (here h)) w.next_stamp (at c w))
    (at c w)

abbrev pub create : Value create_args → Context → FileHandles → Meaning
create v c h = record {
  number = (row ops.Create).number;
  caller = c.caller;
  questions = with_handle h.current
      (is_directory (here h)
      ∷ is_valid (type_fault (draft_of (created_type v))) (type_may (draft_of (created_type v)))
      ∷ is_name (created_name v)
      ∷ is_valid (text_fault (draft v)) (text_may (draft v))
      ∷ is_valid (fault_in (sent c v)) (sent_may c v)
      ∷ is_valid (size_fault (wanted c v)) (size_may (wanted c v))
      ∷ first_row h (Known ops.Create v)
      ∷ has_no_child (here h) (created_name v)
      ∷ Holds (λ s. is_own c.caller (wanted c v)) statuses.Perm tt
      ∷ has_space (λ s. can_make (wanted c v) (draft v).kind s (here h))
      ∷ []);
  answer = λ s. Done ops.Create (changed s (here h), set_of (created_attributes v));
  effect = in_world (with_created c h v);
  goes = λ s. record h { current = Some s.next_number };
}

-- CREATE in a directory, with its last question alone
abbrev pub making : Value create_args → ℕ → Context → FileHandles → Meaning
making v directory c h =
    record (create v c h) { questions = has_space (λ s. can_make (wanted c v) (draft v).kind s directory) ∷ [] }
