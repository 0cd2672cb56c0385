-- The meaning of an operation at its place in a COMPOUND, and the questions of several operations
-- (RFC 8881, sections 2.10, 16.2 and 18). A meaning is the operation's questions in order, its
-- result, and its effect on the realm and on the filehandles.
use Rattle.std.specs.Prelude.{ℕ, ◌&&◌, Bool, true, false, not, nat_le, if◌then◌else◌, List, [], ◌∷◌, length, is_some}
use Rattle.std.specs.Prelude.{unwrap_or, Option, Some, None}
use Rattle.std.proofs.Common.{inl}
use Rattle.std.specs.Option.{option_map_or}
use Rattle.rpc_record.specs.Identity.{Identity}
use Rattle.acl_list.specs.declared.entry.Kind.{Kind}
use Rattle.acl_list.specs.declared.entry.Kind.TheVariants.{File, Directory, Link}
use Rattle.xdr_wire.specs.Xdr.{Value}
use Rattle.nfs_types.specs.declared.status.Status.{Status}
use Rattle.nfs_types.specs.declared.status.Status.TheVariants as statuses
use Rattle.nfs_types.specs.Name.{name_fault}
use Rattle.nfs_ops.specs.Forms.{change_info}
use Rattle.nfs_ops.specs.Results.{Outcome, Refused}
use Rattle.node_tree.specs.declared.at.At.{At}
use Rattle.node_tree.specs.World.{World, is_directory_in}
use Rattle.node_tree.specs.Refusals.{has_left}
use Rattle.compound_run.specs.declared.context.Calling.{Calling}
use Rattle.compound_run.specs.declared.filehandles.FileHandles.{FileHandles}
use Rattle.compound_run.specs.Realm.{Realm}
use Rattle.compound_run.specs.Context.{Context}
use Rattle.compound_run.specs.Sight.{Sight, child}
use Rattle.compound_run.specs.Faults.{IsFault}
use Rattle.compound_run.specs.ArgumentFaults.{name_may}
use Rattle.compound_run.specs.Questions.{Question, Holds, is_valid}

pub record Meaning : Type 0 where
  -- the number of the operation, for its lines
  pub number : ℕ
  -- the caller, for whom access control lists (ACLs) are evaluated
  pub caller : Identity
  pub questions : List Question
  -- the result if the operation is OK
  pub answer : Sight → Outcome
  -- the realm after it
  pub effect : Realm → Realm
  -- the filehandles after it
  pub goes : Sight → FileHandles

-- ---- effects

-- the realm is unchanged
abbrev pub stays : Realm → Realm
stays r = r

-- the world alone changes
abbrev pub in_world : (World → World) → Realm → Realm
in_world f r = record r { world = f r.world }

-- a change at this moment takes the next tick
abbrev pub at : Context → World → At
at c w = record { tick = w.next_tick; moment = c.now }

-- the change attribute of a directory before and after an operation that takes a tick
abbrev pub changed : Sight → ℕ → Value change_info
changed s directory = (inl tt, (s.changes directory, s.next_tick))

-- the change attribute of a directory before and after an operation that takes no tick
abbrev pub unchanged : Sight → ℕ → Value change_info
unchanged s directory = (inl tt, (s.changes directory, s.changes directory))

-- ---- filehandles

-- the object number of a filehandle
abbrev pub number_in : Option ℕ → ℕ
number_in handle = unwrap_or handle 0

-- the object numbers of the current filehandle and of the saved one
abbrev pub here : FileHandles → ℕ
here h = number_in h.current

abbrev pub there : FileHandles → ℕ
there h = number_in h.saved

-- a filehandle names an object
abbrev pub is_set : Option ℕ → Question
is_set handle = Holds (λ s. is_some handle) statuses.NoFileHandle tt

abbrev pub is_live : Option ℕ → Question
is_live handle = Holds (λ s. is_some (s.kinds (number_in handle))) statuses.Stale tt

-- the questions of a filehandle, then these
abbrev pub with_handle : Option ℕ → List Question → List Question
with_handle handle questions = is_set handle ∷ is_live handle ∷ questions

-- ---- types of objects

abbrev pub is_link : Kind → Bool
is_link File = false
is_link Directory = false
is_link Link = true

abbrev pub is_link_in : Sight → ℕ → Bool
is_link_in s number = option_map_or is_link (s.kinds number) false

abbrev pub is_directory : ℕ → Question
is_directory number = Holds (λ s. is_directory_in s.kinds number) statuses.NotDir tt

abbrev pub is_no_directory : ℕ → Question
is_no_directory number = Holds (λ s. not (is_directory_in s.kinds number)) statuses.IsDir tt

abbrev pub is_no_link : ℕ → Question
is_no_link number = Holds (λ s. not (is_link_in s number)) statuses.Symlink tt

-- ---- names

abbrev pub is_name : List ℕ → Question
is_name name = is_valid (name_fault name) (name_may name)

abbrev pub has_child : ℕ → List ℕ → Question
has_child directory name = Holds (λ s. is_some (child s directory name)) statuses.NoEnt tt

abbrev pub has_no_child : ℕ → List ℕ → Question
has_no_child directory name = Holds (λ s. not (is_some (child s directory name))) statuses.Exist tt

-- ---- space

-- the number of names that a directory has
abbrev pub names_at : Sight → ℕ → ℕ
names_at s directory = length (s.names directory)

-- a tick is left, and the change fits
abbrev pub has_space : (Sight → Bool) → Question
has_space test = Holds (λ s. has_left s.next_tick && test s) statuses.NoSpc tt

abbrev pub has_tick : Question
has_tick = Holds (λ s. has_left s.next_tick) statuses.NoSpc tt

-- ---- room

-- a result that doesn't fit is too big for the reply, or too big for a reply that is to be cached
abbrev pub too_big_for : Option Calling → Status
too_big_for None = statuses.RepTooBig
too_big_for (Some calling) = if calling.keeps_reply then statuses.RepTooBigToCache else statuses.RepTooBig

pub too_big_may : (calling : Option Calling) → IsFault (too_big_for calling)
too_big_may None = tt
too_big_may (Some calling) = of calling.keeps_reply
  where
    of : (b : Bool) → IsFault (if b then statuses.RepTooBigToCache else statuses.RepTooBig)
    of true = tt
    of false = tt

-- a result of this size fits
abbrev pub has_room : Context → (Sight → ℕ) → Question
has_room c size = Holds (λ s. nat_le (size s) c.room) (too_big_for c.calling) (too_big_may c.calling)

-- ---- meanings

-- an operation that is refused in any realm
abbrev pub refusing : Context → FileHandles → ℕ → (status : Status) → IsFault status → Meaning
refusing c h number status is = record {
  number = number;
  caller = c.caller;
  questions = is_valid (Some status) is ∷ [];
  answer = λ s. Refused number 0;
  effect = stays;
  goes = λ s. h;
}
