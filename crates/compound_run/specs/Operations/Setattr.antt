-- SETATTR (RFC 8881, section 18.30): sets all attributes that are sent on the current object, or none of them.
use Rattle.std.specs.Prelude.{ℕ, ◌+◌, ◌^◌, Bool, true, false, ◌&&◌, ◌||◌, nat_le, if◌then◌else◌, [], ◌∷◌, is_some}
use Rattle.std.specs.Prelude.{is_none, unwrap_or, Option, Some, None, Result}
use Rattle.std.specs.Option.{option_map_or}
use Rattle.xdr_wire.specs.Xdr.{Value}
use Rattle.acl_list.specs.declared.entry.Kind.{Kind}
use Rattle.acl_list.specs.declared.entry.Kind.TheVariants.{File, Directory, Link}
use Rattle.acl_shape.specs.Permissions.{changed_high}
use Rattle.who_book.specs.Content.{Content}
use Rattle.nfs_types.specs.Forms.{stateid}
use Rattle.nfs_types.specs.declared.set_time.SetTime.{SetTime}
use Rattle.nfs_types.specs.declared.status.Status.{Status}
use Rattle.nfs_types.specs.declared.status.Status.TheVariants as statuses
use Rattle.nfs_types.specs.Sent.{Wanted, has_acl, wanted_of}
use Rattle.nfs_ops.specs.Forms.{setattr_args}
use Rattle.nfs_ops.specs.Operations.{Known}
use Rattle.nfs_ops.specs.Parts.{set_stateid, set_attributes, set_of, values_of}
use Rattle.nfs_ops.specs.declared.OpKind.TheVariants as kinds
use Rattle.nfs_ops.specs.Rows.{row}
use Rattle.nfs_ops.specs.Results.{Done}
use Rattle.node_tree.specs.declared.at.At.{At}
use Rattle.nfs_types.specs.Limits.{Limits}
use Rattle.node_tree.specs.World.{World, Object, object, kind_of}
use Rattle.node_tree.specs.Changes.{with_size, with_list, with_owner, with_times}
use Rattle.node_tree.specs.Refusals.{has_left, resize_refusal}
use Rattle.compound_run.specs.declared.filehandles.FileHandles.{FileHandles}
use Rattle.compound_run.specs.declared.stateids.Purpose.TheVariants.{ToWrite}
use Rattle.compound_run.specs.Context.{Context}
use Rattle.compound_run.specs.Sight.{Sight, kind_at}
use Rattle.compound_run.specs.Faults.{MayFault, fault_in, fault_in_may}
use Rattle.compound_run.specs.ArgumentFaults.{wanted_may}
use Rattle.compound_run.specs.Lists.{set_list, set_fits}
use Rattle.compound_run.specs.Times.{clock_of, moment_set, sets_times}
use Rattle.compound_run.specs.Values.{list_at}
use Rattle.compound_run.specs.Questions.{Holds, Valid}
use Rattle.compound_run.specs.Stateids.{stateid_fault, stateid_may}
use Rattle.compound_run.specs.Operations.Create.{wanted_in}
use Rattle.compound_run.specs.Rows.{sized_row}
use Rattle.compound_run.specs.Meaning.{Meaning, at, in_world, with_handle, here}

-- ---- the attributes that are sent

-- the values that the attributes set on an object of this type, or the fault of the attributes
abbrev pub sent_by : (times : Bool) → Content → Value setattr_args → Kind → Result Wanted Status
sent_by times book v kind = wanted_of times book kind (set_of (set_attributes v)) (values_of (set_attributes v))

abbrev pub sent : Context → Value setattr_args → Kind → Result Wanted Status
sent c v kind = sent_by c.times c.book v kind

pub sent_may : (c : Context) (v : Value setattr_args) (kind : Kind) → MayFault (fault_in (sent c v kind))
sent_may c v kind =
    fault_in_may (sent c v kind)
    (wanted_may c.times c.book kind (set_of (set_attributes v)) (values_of (set_attributes v)))

abbrev pub wanted : Context → Value setattr_args → Kind → Wanted
wanted c v kind = wanted_in (sent c v kind)

-- the values that the attributes set on an object of the sight
abbrev pub wanted_on : Context → Value setattr_args → ℕ → Sight → Wanted
wanted_on c v number s = wanted c v (kind_at s number)

abbrev pub attributes_fault : Context → Value setattr_args → ℕ → Sight → Option Status
attributes_fault c v number s = fault_in (sent c v (kind_at s number))

-- ---- a size

abbrev pub is_file : Kind → Bool
is_file File = true
is_file Directory = false
is_file Link = false

-- only a file has a size to set, and setting it needs a stateid
abbrev pub size_fault : Option ℕ → Context → ℕ → Value stateid → Sight → Option Status
size_fault None c number id s = None
size_fault (Some size) c number id s =
    if is_file (kind_at s number) then stateid_fault ToWrite c number id s else Some statuses.Inval

pub size_may : (size : Option ℕ) (c : Context) (number : ℕ) (id : Value stateid) (s : Sight)
    → MayFault (size_fault size c number id s)
size_may None c number id s = tt
size_may (Some size) c number id s = of (is_file (kind_at s number)) _ (stateid_may ToWrite c number id s)
  where
    of : (b : Bool) (fault : Option Status) → MayFault fault → MayFault (if b then fault else Some statuses.Inval)
    of true fault may = may
    of false fault may = tt

-- the size is within the limit of a file
abbrev pub size_fits : Limits → Option ℕ → Bool
size_fits limits None = true
size_fits limits (Some size) = is_none (resize_refusal limits size)

-- ---- the counters

-- A new access control list (ACL) takes a stamp: it is set by an acl, by a dacl or sacl, or by a mode. A new owner or
-- group takes another stamp.
abbrev pub sets_acl : Wanted → Bool
sets_acl wanted = is_some wanted.mode || has_acl wanted

abbrev pub sets_owner : Wanted → Bool
sets_owner wanted = is_some wanted.owner || is_some wanted.group

abbrev pub sets_any : Wanted → Bool
sets_any wanted = is_some wanted.size || sets_acl wanted || sets_owner wanted || sets_times wanted

abbrev pub stamps : Wanted → ℕ
stamps wanted = (if sets_acl wanted then 1 else 0) + (if sets_owner wanted then 1 else 0)

-- A tick is left, and each stamp that is taken. If no attribute is set, none is taken.
unfoldable pub can_count : Wanted → Sight → Bool
can_count wanted s =
    if sets_any wanted then has_left s.next_tick && nat_le (s.next_stamp + stamps wanted) (2 ^ 63) else true

-- these counters are left, and the new ACL is within its bounds
abbrev pub has_space_to_set : Wanted → ℕ → Sight → Bool
has_space_to_set wanted number s = can_count wanted s && set_fits wanted (kind_at s number) (list_at s number)

-- ---- the change, part by part; the parts share the tick

abbrev pub sized : ℕ → Option ℕ → At → World → World
sized number None at w = w
sized number (Some size) at w = with_size w number size at

abbrev pub listed : ℕ → Object → Wanted → At → World → World
listed number o wanted at w =
    if sets_acl wanted
    then with_list w number (set_list wanted o.kind o.list) (changed_high o.high wanted.mode) at
    else w

abbrev pub owned : ℕ → Object → Wanted → At → World → World
owned number o wanted at w =
    if sets_owner wanted then with_owner w number (unwrap_or wanted.owner o.owner) (unwrap_or wanted.group o.group) at
    else w

-- the times, last of all: a size that is set sets time_modify too
abbrev pub timed : ℕ → (access modify : Option SetTime) → At → World → World
timed number access modify at w =
    if is_some access || is_some modify
    then with_times w number (moment_set at.moment access) (moment_set at.moment modify) at
    else w

-- the change, given the object as it was before
abbrev pub set_on : ℕ → Object → Wanted → At → World → World
set_on number o wanted at w =
    timed number wanted.access wanted.modify at
    (owned number o wanted at (listed number o wanted at (sized number wanted.size at w)))

unfoldable pub setting : ℕ → Wanted → At → World → World
setting number wanted at w = option_map_or (λ o. set_on number o wanted at w) (object w number) w

abbrev pub with_attributes : Context → FileHandles → Value setattr_args → World → World
with_attributes c h v w = setting (here h) (wanted c v (unwrap_or (kind_of w (here h)) File)) (at c w) w

abbrev pub setattr : Value setattr_args → Context → FileHandles → Meaning
setattr v c h = record {
  number = (row kinds.SetAttr).number;
  caller = c.caller;
  questions = with_handle h.current
      (Valid (attributes_fault c v (here h)) (λ s. sent_may c v (kind_at s (here h)))
      ∷ Valid (λ s. size_fault (wanted_on c v (here h) s).size c (here h) (set_stateid v) s)
      (λ s. size_may (wanted_on c v (here h) s).size c (here h) (set_stateid v) s)
      ∷ sized_row h (Known kinds.SetAttr v) (λ s. (wanted_on c v (here h) s).size)
      (λ s. clock_of (wanted_on c v (here h) s))
      ∷ Holds (λ s. size_fits s.limits (wanted_on c v (here h) s).size) statuses.FBig tt
      ∷ Holds (λ s. has_space_to_set (wanted_on c v (here h) s) (here h) s) statuses.NoSpc tt
      ∷ []);
  answer = λ s. Done kinds.SetAttr (set_of (set_attributes v));
  effect = in_world (with_attributes c h v);
  goes = λ s. h;
}
