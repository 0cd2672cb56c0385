-- The fault of a name, a filehandle or attributes is neither ACCESS nor DELAY, nor OK.
use Rattle.std.specs.Prelude.{ℕ, ◌==◌, ◌&&◌, Bool, true, false, cond, not, is_none, nat_lt, List, [], ◌∷◌, length}
use Rattle.std.specs.Prelude.{map, take, Option, Some, None, Result, Ok, Err, slice_get, ◌||◌}
use Rattle.std.proofs.Common.{inl, inr}
use Rattle.std.specs.List.{list_any, list_all, filter_map, cons_option}
use Rattle.std.specs.Str.{is_utf8}
use Rattle.xdr_wire.specs.Xdr.{Value}
use Rattle.xdr_wire.specs.Reading.{are_zero}
use Rattle.acl_list.specs.Kinds.{kind_of}
use Rattle.acl_list.specs.declared.entry.Entry.{Entry}
use Rattle.acl_list.specs.declared.entry.Kind.{Kind}
use Rattle.acl_list.specs.declared.flag.TheConstants as flag
use Rattle.acl_list.specs.declared.mask.TheConstants as mask
use Rattle.acl_shape.specs.Admitted.{admitted}
use Rattle.acl_shape.specs.Admitted as lists
use Rattle.acl_shape.specs.Mode.{without}
use Rattle.acl_shape.specs.Parts.{is_of}
use Rattle.acl_shape.specs.declared.part.Part.{Part}
use Rattle.acl_shape.specs.declared.part.Part.TheVariants as parts
use Rattle.acl_shape.specs.declared.request.AdmitFault.{AdmitFault}
use Rattle.acl_shape.specs.declared.request.AdmitFault.TheVariants as faults
use Rattle.acl_shape.specs.declared.request.Raw.{Raw}
use Rattle.who_book.specs.Content.{Content}
use Rattle.who_book.specs.Spelling.{principal_in}
use Rattle.who_book.specs.declared.kind.NameKind.{NameKind}
use Rattle.who_book.specs.declared.kind.NameKind.TheVariants as names
use Rattle.nfs_types.specs.declared.moment.Moment.{Moment}
use Rattle.nfs_types.specs.declared.status.Status.{Status}
use Rattle.nfs_types.specs.Name.{name_fault, separates, is_dots}
use Rattle.nfs_types.specs.Handles.{object_of}
use Rattle.nfs_types.specs.Attributes.{ace, acl41, is_within, supported_words, settable_words}
use Rattle.nfs_types.specs.Sent.{Sent, ◌>>◌, raw_of, unless, taken_acl, taken_mode, taken_name, taken_plain}
use Rattle.nfs_types.specs.Sent.{taken_part, taken_parts, taken_each, taken, is_set_twice, known, spelled, whole}
use Rattle.nfs_types.specs.Sent.{sent_at, taken_times, wanted_of}
use Rattle.nfs_types.specs.Times.{settime, client_time, taken_time}
use Rattle.nfs_types.specs.MomentView.{moment_in}
use Rattle.compound_run.specs.Faults.{MayFault, IsValueOrFault}

-- ---- names

either : (b : Bool) (first second : Option Status) → MayFault first → MayFault second → MayFault (cond b first second)
either true first second f s = f
either false first second f s = s

pub name_may : (name : List ℕ) → MayFault (name_fault name)
name_may name =
    either (length name == 0) _ _ tt (either (nat_lt 255 (length name)) _ _ tt (either (not (is_utf8 name)) _ _ tt
    (either (list_any separates name) _ _ tt (either (is_dots name) _ _ tt tt))))

-- ---- filehandles

choose : {A : Type 0} (b : Bool) (first second : Result A Status) → IsValueOrFault first → IsValueOrFault second
    → IsValueOrFault (cond b first second)
choose true first second f s = f
choose false first second f s = s

pub object_may : (handle : List ℕ) → IsValueOrFault (object_of handle)
object_may handle = choose ((length handle == 16) && are_zero (take 8 handle)) _ _ tt tt

-- ---- attributes

bind : {A B : Type 0} (r : Result A Status) (f : A → Result B Status) → IsValueOrFault r
    → ((x : A) → IsValueOrFault (f x)) → IsValueOrFault (r >> f)
bind (Ok x) f may more = more x
bind (Err status) f may more = may

-- no access control entry (ACE) is refused because an allocation failed
abbrev MayAdmit : Option AdmitFault → Type 0
MayAdmit None = Unit {0}
MayAdmit (Some faults.NoSpc) = Unit {0}
MayAdmit (Some faults.AttrNotSupp) = Unit {0}
MayAdmit (Some faults.Inval) = Unit {0}
MayAdmit (Some faults.BadOwner) = Unit {0}
MayAdmit (Some faults.Memory) = ⊥

admits : (b : Bool) (first second : Option AdmitFault) → MayAdmit first → MayAdmit second
    → MayAdmit (cond b first second)
admits true first second f s = f
admits false first second f s = s

entry_may : (raw : Raw) → MayAdmit (lists.fault_of raw)
entry_may raw =
    admits (is_none (kind_of raw.kind)) _ _ tt
    (admits (nat_lt flag.DEFINED raw.flags || not (without raw.mask mask.DEFINED == 0)) _ _ tt
    (admits (is_none raw.who) _ _ tt tt))

first_of : (fault : Option AdmitFault) (more : List AdmitFault) → MayAdmit fault → MayAdmit (slice_get more 0)
    → MayAdmit (slice_get (cons_option fault more) 0)
first_of None more may may' = may'
first_of (Some fault) more may may' = may

entries_may : (raws : List Raw) → MayAdmit (slice_get (filter_map lists.fault_of raws) 0)
entries_may [] = tt
entries_may (raw ∷ raws) =
    first_of (lists.fault_of raw) (filter_map lists.fault_of raws) (entry_may raw) (entries_may raws)

list_may : (raws : List Raw) → MayAdmit (lists.first_fault raws)
list_may raws = admits (nat_lt 59 (length raws)) _ _ tt (entries_may raws)

admit_may : (fault : Option AdmitFault) (list : List Entry) → MayAdmit fault → IsValueOrFault (unless fault list)
admit_may None list may = tt
admit_may (Some faults.NoSpc) list may = tt
admit_may (Some faults.AttrNotSupp) list may = tt
admit_may (Some faults.Inval) list may = tt
admit_may (Some faults.BadOwner) list may = tt
admit_may (Some faults.Memory) list may = may

acl_may : (book : Content) (kind : Kind) (entries : Option (List (Value ace)))
    → IsValueOrFault (taken_acl book kind entries)
acl_may book kind None = tt
acl_may book kind (Some entries) =
    admit_may (lists.first_fault (map (raw_of book) entries)) (admitted kind (map (raw_of book) entries))
    (list_may (map (raw_of book) entries))

mode_may : (mode : Option ℕ) → IsValueOrFault (taken_mode mode)
mode_may None = tt
mode_may (Some mode) = choose (nat_lt 4095 mode) _ _ tt tt

known_may : (number : Option ℕ) → IsValueOrFault (known number)
known_may None = tt
known_may (Some number) = tt

principal_may : (book : Content) (kind : NameKind) (name : Option (List ℕ)) → IsValueOrFault (taken_name book kind name)
principal_may book kind None = tt
principal_may book kind (Some name) = known_may (principal_in kind book name)

plain_may : (book : Content) (mode : Option ℕ) (owner group : Option (List ℕ))
    → IsValueOrFault (taken_plain book mode owner group)
plain_may book mode owner group =
    bind (taken_mode mode) _ (mode_may mode)
    (λ m. bind (taken_name book names.User owner) _ (principal_may book names.User owner)
    (λ o. bind (taken_name book names.Group group) _ (principal_may book names.Group group) (λ g. tt)))

first_may : (first second : Option AdmitFault) → MayAdmit first → MayAdmit second
    → MayAdmit (lists.first_of first second)
first_may None second f s = s
first_may (Some fault) second f s = f

part_of_list_may : (part : Part) (kind : Kind) (raws : List Raw) → MayAdmit (lists.part_fault part kind raws)
part_of_list_may part kind raws =
    first_may (lists.first_fault raws) _ (list_may raws) (admits (list_all (is_of part) (admitted kind raws)) _ _ tt tt)

part_may : (part : Part) (book : Content) (kind : Kind) (sent : Option (Value acl41))
    → IsValueOrFault (taken_part part book kind sent)
part_may part book kind None = tt
part_may part book kind (Some sent) =
    choose (not (sent.0 == 0)) _ _ tt
    (admit_may (lists.part_fault part kind (map (raw_of book) sent.1)) (admitted kind (map (raw_of book) sent.1))
    (part_of_list_may part kind (map (raw_of book) sent.1)))

parts_may : (book : Content) (kind : Kind) (dacl sacl : Option (Value acl41))
    → IsValueOrFault (taken_parts book kind dacl sacl)
parts_may book kind dacl sacl =
    bind (taken_part parts.Dacl book kind dacl) _ (part_may parts.Dacl book kind dacl)
    (λ d. bind (taken_part parts.Sacl book kind sacl) _ (part_may parts.Sacl book kind sacl) (λ s. tt))

client_time_may : (moment : Option Moment) → IsValueOrFault (client_time moment)
client_time_may None = tt
client_time_may (Some moment) = tt

time_may : (time : Option (Value settime)) → IsValueOrFault (taken_time time)
time_may None = tt
time_may (Some (inl v)) = tt
time_may (Some (inr (inl v))) = client_time_may (moment_in v)
time_may (Some (inr (inr v))) = elim v [ ]

times_may : (access modify : Option (Value settime)) → IsValueOrFault (taken_times access modify)
times_may access modify =
    bind (taken_time access) _ (time_may access) (λ a. bind (taken_time modify) _ (time_may modify) (λ m. tt))

each_may : (book : Content) (kind : Kind) (s : Sent) → IsValueOrFault (taken_each book kind s)
each_may book kind s =
    bind (taken_acl book kind s.entries) _ (acl_may book kind s.entries)
    (λ list. bind (taken_plain book s.mode s.owner s.group) _ (plain_may book s.mode s.owner s.group)
    (λ plain. bind (taken_times s.access s.modify) _ (times_may s.access s.modify)
    (λ times. bind (taken_parts book kind s.dacl s.sacl) _ (parts_may book kind s.dacl s.sacl) (λ both. tt))))

taken_may : (book : Content) (kind : Kind) (s : Sent) → IsValueOrFault (taken book kind s)
taken_may book kind s = choose (is_set_twice s) _ _ tt (each_may book kind s)

spelled_may : (book : Content) (kind : Kind) (s : Option Sent) → IsValueOrFault (spelled book kind s)
spelled_may book kind None = tt
spelled_may book kind (Some s) = taken_may book kind s

pub wanted_may : (times : Bool) (book : Content) (kind : Kind) (set bytes : List ℕ)
    → IsValueOrFault (wanted_of times book kind set bytes)
wanted_may times book kind set bytes =
    choose (not (is_within set (supported_words times))) _ _ tt
    (choose (not (is_within set settable_words)) _ _ tt (spelled_may book kind (whole (sent_at set bytes))))
