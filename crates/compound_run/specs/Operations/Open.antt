-- OPEN (RFC 8881, section 18.16): opens a file, by its name in the current directory or by the current filehandle. It
-- may create an absent file and truncate an existing one. The file becomes the current filehandle.
use Rattle.std.specs.Prelude.{ℕ, ◌+◌, ◌==◌, ◌%◌, Bool, true, false, ◌&&◌, ◌||◌, nat_lt, nat_eq, if◌then◌else◌, List}
use Rattle.std.specs.Prelude.{[], ◌∷◌, ◌++◌, length, map, find, unwrap_or, bit_or, Option, Some, None, Result, Ok}
use Rattle.std.proofs.Common.{inl}
use Rattle.std.specs.Option.{option_map}
use Rattle.std.specs.Cmp.Lexicographic.{pointwise}
use Rattle.xdr_wire.specs.Xdr.{Value}
use Rattle.acl_list.specs.declared.entry.Kind.{Kind}
use Rattle.acl_list.specs.declared.entry.Kind.TheVariants.{File, Directory, Link}
use Rattle.who_book.specs.Content.{Content}
use Rattle.nfs_types.specs.Forms.{attributes, stateid}
use Rattle.nfs_types.specs.Name.{name_fault}
use Rattle.nfs_types.specs.StateIds.{open_stateid}
use Rattle.nfs_types.specs.declared.status.Status.{Status}
use Rattle.nfs_types.specs.declared.status.Status.TheVariants as statuses
use Rattle.nfs_types.specs.Sent.{Wanted, nothing, wanted_of}
use Rattle.nfs_ops.specs.Forms.{change_info, open_args, open_result}
use Rattle.nfs_ops.specs.Operations.{Known}
use Rattle.nfs_ops.specs.Parts.{How, NoCreate, Unchecked, Guarded, Claim, ByName, ByHandle, open_access, open_deny}
use Rattle.nfs_ops.specs.Parts.{open_owner, how_of, claim_of, set_of, values_of}
use Rattle.nfs_ops.specs.declared.OpKind.TheVariants as kinds
use Rattle.nfs_ops.specs.Rows.{row}
use Rattle.nfs_ops.specs.Results.{Done}
use Rattle.nfs_types.specs.Limits.{Limits}
use Rattle.node_tree.specs.World.{World}
use Rattle.node_tree.specs.Changes.{resized, with_new, with_size}
use Rattle.node_tree.specs.Refusals.{has_left}
use Rattle.access_rows.specs.Rows.{is_creating, is_truncating}
use Rattle.compound_run.specs.declared.filehandles.FileHandles.{FileHandles}
use Rattle.compound_run.specs.Realm.{Realm, Opened}
use Rattle.compound_run.specs.Context.{Context}
use Rattle.compound_run.specs.Sight.{Sight, whole, child, kind_at}
use Rattle.compound_run.specs.Faults.{MayFault, IsValueOrFault, fault_in, fault_in_may, first_fault, first_may}
use Rattle.compound_run.specs.ArgumentFaults.{name_may, wanted_may}
use Rattle.compound_run.specs.Questions.{Question, Holds, Valid, is_valid}
use Rattle.compound_run.specs.Stateids.{client_of}
use Rattle.compound_run.specs.Operations.Create.{Draft, wanted_in, is_own, can_make, created, list_at}
use Rattle.compound_run.specs.Operations.Setattr.{size_fits}
use Rattle.compound_run.specs.Rows.{first_row, opening_row}
use Rattle.compound_run.specs.Meaning.{Meaning, at, changed, unchanged, with_handle, here}

-- ---- the access, and the open-owner

-- to read, to write, or both; the higher bits are hints
abbrev pub access_of : Value open_args → ℕ
access_of v = open_access v % 256

abbrev pub access_fault : ℕ → Option Status
access_fault access = if (access == 1) || (access == 2) || (access == 3) then None else Some statuses.Inval

-- a share reservation that denies anything isn't supported
abbrev pub deny_fault : ℕ → Option Status
deny_fault deny = if deny == 0 then None else if nat_lt 3 deny then Some statuses.Inval else Some statuses.NotSupp

-- a name must be valid; by filehandle, the file exists and can't be created
abbrev pub claim_fault : Claim → How → Option Status
claim_fault (ByName name) how = name_fault name
claim_fault ByHandle how = if is_creating how then Some statuses.Inval else None

abbrev pub arguments_fault : Value open_args → Option Status
arguments_fault v =
    first_fault (access_fault (access_of v))
    (first_fault (deny_fault (open_deny v)) (claim_fault (claim_of v) (how_of v)))

-- ---- the attributes of a file that OPEN may create

-- the values that the attributes set on a file, or the fault of the attributes
abbrev pub sent_with : (times : Bool) → Content → Value attributes → Result Wanted Status
sent_with times book set = wanted_of times book File (set_of set) (values_of set)

abbrev pub sent_by : (times : Bool) → Content → How → Result Wanted Status
sent_by times book NoCreate = Ok nothing
sent_by times book (Unchecked set) = sent_with times book set
sent_by times book (Guarded set) = sent_with times book set

abbrev pub sent : Context → How → Result Wanted Status
sent c how = sent_by c.times c.book how

abbrev pub wanted : Context → Value open_args → Wanted
wanted c v = wanted_in (sent c (how_of v))

-- the set of the attributes that were sent
abbrev pub sent_set : How → List ℕ
sent_set NoCreate = []
sent_set (Unchecked set) = set_of set
sent_set (Guarded set) = set_of set

-- whether an existing file is truncated
abbrev pub truncates : Context → Value open_args → Bool
truncates c v = is_truncating (how_of v) (wanted c v).size

-- ---- the file

-- by name the current object must be a directory, by filehandle a file
abbrev pub current_fault : Claim → Kind → Option Status
current_fault (ByName name) Directory = None
current_fault (ByName name) File = Some statuses.NotDir
current_fault (ByName name) Link = Some statuses.NotDir
current_fault ByHandle File = None
current_fault ByHandle Directory = Some statuses.IsDir
current_fault ByHandle Link = Some statuses.Symlink

-- the name under which the file may be created
abbrev pub name_in : Claim → List ℕ
name_in (ByName name) = name
name_in ByHandle = []

-- the object of that name, if any
abbrev pub found_by : Claim → FileHandles → Sight → Option ℕ
found_by (ByName name) h s = child s (here h) name
found_by ByHandle h s = h.current

abbrev pub found : Value open_args → FileHandles → Sight → Option ℕ
found v h s = found_by (claim_of v) h s

-- UNCHECKED4 and GUARDED4 create an absent file. An existing object must be a file, and GUARDED4 refuses it.
abbrev pub found_fault : How → Option Kind → Option Status
found_fault NoCreate None = Some statuses.NoEnt
found_fault (Unchecked set) None = None
found_fault (Guarded set) None = None
found_fault (Guarded set) (Some kind) = Some statuses.Exist
found_fault NoCreate (Some File) = None
found_fault NoCreate (Some Directory) = Some statuses.IsDir
found_fault NoCreate (Some Link) = Some statuses.Symlink
found_fault (Unchecked set) (Some File) = None
found_fault (Unchecked set) (Some Directory) = Some statuses.IsDir
found_fault (Unchecked set) (Some Link) = Some statuses.Symlink

-- a new file of the size that is set; each byte of it is zero
abbrev pub file_of : Wanted → Draft
file_of wanted = record { kind = File; text = resized [] (unwrap_or wanted.size 0) }

-- ---- the open

-- the open is one of this file, by this owner of this client
abbrev pub is_opened_by : ℕ → List ℕ → ℕ → Opened → Bool
is_opened_by client owner file o = (o.client == client) && pointwise nat_eq o.owner owner && (o.object == file)

-- the owner's open of the object, if any: then OPEN upgrades it
abbrev pub joined : Context → Value open_args → Option ℕ → List Opened → Option Opened
joined c v None opens = None
joined c v (Some file) opens = find (is_opened_by (client_of c) (open_owner v) file) opens

-- after 0xffffffff comes 1
abbrev pub risen : ℕ → ℕ
risen seqid = if seqid == 0xffff_ffff then 1 else seqid + 1

-- the open after an upgrade: it also has this access
abbrev pub reopened : ℕ → Opened → Opened
reopened access o = record o { access = bit_or o.access access; seqid = risen o.seqid }

abbrev pub with_reopened : ℕ → ℕ → List Opened → List Opened
with_reopened number access opens = map (λ o. if o.number == number then reopened access o else o) opens

-- a new open, with the next number
abbrev pub new_open : Context → Value open_args → ℕ → ℕ → Opened
new_open c v number file =
    record {
      number = number;
      client = client_of c;
      owner = open_owner v;
      object = file;
      access = access_of v;
      seqid = 1;
    }

abbrev pub with_open : Context → Value open_args → ℕ → Option Opened → Realm → Realm
with_open c v file (Some o) r = record r { opens = with_reopened o.number (access_of v) r.opens }
with_open c v file None r =
    record r { opens = r.opens ++ new_open c v r.next_open file ∷ []; next_open = r.next_open + 1 }

abbrev pub stateid_of : Option Opened → ℕ → Value stateid
stateid_of (Some o) next = open_stateid (risen o.seqid) o.number
stateid_of None next = open_stateid 1 next

-- ---- these faults are neither ACCESS nor DELAY

access_may : (access : ℕ) → MayFault (access_fault access)
access_may access = of ((access == 1) || (access == 2) || (access == 3))
  where
    of : (b : Bool) → MayFault (if b then None else Some statuses.Inval)
    of true = tt
    of false = tt

deny_may : (deny : ℕ) → MayFault (deny_fault deny)
deny_may deny = of (deny == 0) (nat_lt 3 deny)
  where
    of : (a b : Bool) → MayFault (if a then None else if b then Some statuses.Inval else Some statuses.NotSupp)
    of true b = tt
    of false true = tt
    of false false = tt

claim_may : (claim : Claim) (how : How) → MayFault (claim_fault claim how)
claim_may (ByName name) how = name_may name
claim_may ByHandle how = of (is_creating how)
  where
    of : (b : Bool) → MayFault (if b then Some statuses.Inval else None)
    of true = tt
    of false = tt

pub arguments_may : (v : Value open_args) → MayFault (arguments_fault v)
arguments_may v =
    first_may (access_fault (access_of v))
    (first_fault (deny_fault (open_deny v)) (claim_fault (claim_of v) (how_of v))) (access_may (access_of v))
    (first_may (deny_fault (open_deny v)) (claim_fault (claim_of v) (how_of v)) (deny_may (open_deny v))
    (claim_may (claim_of v) (how_of v)))

pub sent_may : (c : Context) (how : How) → IsValueOrFault (sent c how)
sent_may c NoCreate = tt
sent_may c (Unchecked set) = wanted_may c.times c.book File (set_of set) (values_of set)
sent_may c (Guarded set) = wanted_may c.times c.book File (set_of set) (values_of set)

pub current_may : (claim : Claim) (kind : Kind) → MayFault (current_fault claim kind)
current_may (ByName name) Directory = tt
current_may (ByName name) File = tt
current_may (ByName name) Link = tt
current_may ByHandle File = tt
current_may ByHandle Directory = tt
current_may ByHandle Link = tt

pub found_may : (how : How) (kind : Option Kind) → MayFault (found_fault how kind)
found_may NoCreate None = tt
found_may (Unchecked set) None = tt
found_may (Guarded set) None = tt
found_may (Guarded set) (Some kind) = tt
found_may NoCreate (Some File) = tt
found_may NoCreate (Some Directory) = tt
found_may NoCreate (Some Link) = tt
found_may (Unchecked set) (Some File) = tt
found_may (Unchecked set) (Some Directory) = tt
found_may (Unchecked set) (Some Link) = tt

-- ---- the questions after the second row

-- a new file must belong to the caller, and its size must be within the limit
abbrev pub is_permitted : Context → Value open_args → Option ℕ → Bool
is_permitted c v None = is_own c.caller (wanted c v)
is_permitted c v (Some file) = true

abbrev pub is_within : Limits → Context → Value open_args → Option ℕ → Bool
is_within limits c v None = size_fits limits (wanted c v).size
is_within limits c v (Some file) = true

-- a new file fits; a truncation takes a tick
abbrev pub has_file_space : Context → Value open_args → ℕ → Option ℕ → Sight → Bool
has_file_space c v directory None s = has_left s.next_tick && can_make (wanted c v) File s directory
has_file_space c v directory (Some file) s = if truncates c v then has_left s.next_tick else true

-- one more open fits
abbrev pub has_open_space : Option Opened → Sight → Bool
has_open_space (Some o) s = true
has_open_space None s = nat_lt (length s.opens) s.limits.opens && has_left s.next_open

abbrev pub has_space_for : Context → Value open_args → ℕ → Option ℕ → Sight → Bool
has_space_for c v directory file s = has_file_space c v directory file s && has_open_space (joined c v file s.opens) s

abbrev pub last_questions : Value open_args → Context → FileHandles → List Question
last_questions v c h =
    Holds (λ s. is_permitted c v (found v h s)) statuses.Perm tt
    ∷ Holds (λ s. is_within s.limits c v (found v h s)) statuses.FBig tt
    ∷ Holds (λ s. has_space_for c v (here h) (found v h s) s) statuses.NoSpc tt
    ∷ []

-- ---- the result, and the realm after it

-- The change attribute of the directory, which stays unless a file is created. An OPEN by filehandle has no directory.
abbrev pub change_of : Claim → ℕ → Option ℕ → Sight → Value change_info
change_of (ByName name) directory None s = changed s directory
change_of (ByName name) directory (Some file) s = unchanged s directory
change_of ByHandle directory file s = (inl tt, (0, 0))

-- the attributes that are set: on a new file all that were sent, on a truncated file size (4) alone
abbrev pub set_by : Context → Value open_args → Option ℕ → List ℕ
set_by c v None = sent_set (how_of v)
set_by c v (Some file) = if truncates c v then 16 ∷ [] else []

abbrev pub result_on : Context → Value open_args → ℕ → Option ℕ → Sight → Value open_result
result_on c v directory file s = (
  stateid_of (joined c v file s.opens) s.next_open,
  (change_of (claim_of v) directory file s, (inl tt, (set_by c v file, inl tt))),
)

-- the world with the opened file
abbrev pub file_in : Context → Value open_args → ℕ → Option ℕ → World → World
file_in c v directory None w =
    with_new w directory (name_in (claim_of v))
    (created c (file_of (wanted c v)) (wanted c v) (list_at w directory) w.next_stamp (at c w)) (at c w)
file_in c v directory (Some file) w = if truncates c v then with_size w file 0 (at c w) else w

abbrev pub opened_on : Context → Value open_args → ℕ → Option ℕ → Realm → Realm
opened_on c v directory file r =
    record (with_open c v (unwrap_or file r.world.next_number) (joined c v file r.opens) r) {
      world = file_in c v directory file r.world;
    }

abbrev pub open_file : Value open_args → Context → FileHandles → Meaning
open_file v c h = record {
  number = (row kinds.Open).number;
  caller = c.caller;
  questions = with_handle h.current
      (Valid (λ s. current_fault (claim_of v) (kind_at s (here h))) (λ s. current_may (claim_of v) (kind_at s (here h)))
      ∷ is_valid (arguments_fault v) (arguments_may v)
      ∷ is_valid (fault_in (sent c (how_of v))) (fault_in_may (sent c (how_of v)) (sent_may c (how_of v)))
      ∷ first_row h (Known kinds.Open v)
      ∷ Valid (λ s. found_fault (how_of v) (option_map (kind_at s) (found v h s)))
      (λ s. found_may (how_of v) (option_map (kind_at s) (found v h s)))
      ∷ opening_row h (Known kinds.Open v) (found v h) (wanted c v).size
      ∷ last_questions v c h);
  answer = λ s. Done kinds.Open (result_on c v (here h) (found v h s) s);
  effect = λ r. opened_on c v (here h) (found v h (whole r)) r;
  goes = λ s. record h { current = Some (unwrap_or (found v h s) s.next_number) };
}

-- OPEN, with its last questions alone
abbrev pub opening : Value open_args → Context → FileHandles → Meaning
opening v c h = record (open_file v c h) { questions = last_questions v c h }
