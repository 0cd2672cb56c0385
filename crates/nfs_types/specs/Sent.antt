-- Attributes that an operation sets, as they are sent (RFC 8881, sections 5.8, 5.9 and 6.2).
use Rattle.std.specs.Prelude.{ℕ, nat_lt, ◌==◌, Bool, true, false, not, ◌&&◌, ◌||◌, if◌then◌else◌, List, [], ◌∷◌, map}
use Rattle.std.specs.Prelude.{Option, Some, None, is_some, Result, Ok, Err}
use Rattle.xdr_wire.specs.Xdr.{Xdr, Value, uint, hyper}
use Rattle.xdr_wire.specs.Reading.{◌>>=◌, Read, read_at}
use Rattle.acl_list.specs.declared.entry.Entry.{Entry}
use Rattle.acl_list.specs.declared.entry.Kind.{Kind}
use Rattle.acl_shape.specs.Admitted.{first_fault, admitted, part_fault}
use Rattle.acl_shape.specs.declared.part.Part.{Part}
use Rattle.acl_shape.specs.declared.part.Part.TheVariants.{Dacl, Sacl}
use Rattle.acl_shape.specs.declared.request.Raw.{Raw}
use Rattle.acl_shape.specs.declared.request.AdmitFault.{AdmitFault}
use Rattle.acl_shape.specs.declared.request.AdmitFault.TheVariants as faults
use Rattle.who_book.specs.Content.{Content}
use Rattle.who_book.specs.Spelling.{principal_in, ace_principal_in}
use Rattle.who_book.specs.declared.kind.NameKind.{NameKind}
use Rattle.who_book.specs.declared.kind.NameKind.TheVariants as kinds
use Rattle.nfs_types.specs.Sets.{has_number}
use Rattle.nfs_types.specs.Attributes.{text, ace, acl, acl41, supported_words, settable_words, is_within}
use Rattle.nfs_types.specs.Times.{settime, taken_time}
use Rattle.nfs_types.specs.declared.set_time.SetTime.{SetTime}
use Rattle.nfs_types.specs.declared.status.Status.{Status}
use Rattle.nfs_types.specs.declared.status.Status.TheVariants as status

-- the value of an attribute if it is among those sent, else nothing
abbrev pub chosen_at : Bool → (t : Xdr) → List ℕ → Read (Option (Value t))
chosen_at true t bytes = read_at t bytes >>= λ x. Ok (Some x.0, x.1)
chosen_at false t bytes = Ok (None, bytes)

-- the values that were sent
pub record Sent : Type 0 where
  pub size : Option ℕ
  pub entries : Option (List (Value ace))
  pub mode : Option ℕ
  pub owner : Option (List ℕ)
  pub group : Option (List ℕ)
  pub access : Option (Value settime)
  pub modify : Option (Value settime)
  pub dacl : Option (Value acl41)
  pub sacl : Option (Value acl41)

-- One value after the other, by rising number: 4 size, 12 acl, 33 mode, 36 owner, 37 owner_group, 48 time_access_set,
-- 54 time_modify_set, 58 dacl, 59 sacl.
abbrev pub sent_at : List ℕ → List ℕ → Read Sent
sent_at set bytes =
    chosen_at (has_number set 4) hyper bytes >>= λ a.
    chosen_at (has_number set 12) acl a.1 >>= λ b.
    chosen_at (has_number set 33) uint b.1 >>= λ c.
    chosen_at (has_number set 36) text c.1 >>= λ d.
    chosen_at (has_number set 37) text d.1 >>= λ e.
    chosen_at (has_number set 48) settime e.1 >>= λ f.
    chosen_at (has_number set 54) settime f.1 >>= λ g.
    chosen_at (has_number set 58) acl41 g.1 >>= λ h.
    chosen_at (has_number set 59) acl41 h.1 >>= λ i.
    Ok (
      record {
        size = a.0;
        entries = b.0;
        mode = c.0;
        owner = d.0;
        group = e.0;
        access = f.0;
        modify = g.0;
        dacl = h.0;
        sacl = i.0;
      },
      i.1,
    )

-- the values that the bytes encode, all of the bytes
abbrev pub whole : Read Sent → Option Sent
whole (Ok (sent, [])) = Some sent
whole (Ok (sent, b ∷ bytes)) = None
whole (Err fault) = None

-- an access control entry (ACE), with its principal looked up
abbrev pub raw_of : Content → Value ace → Raw
raw_of book e = record { kind = e.0; flags = e.1.0; mask = e.1.1.0; who = ace_principal_in e.1.0 book e.1.1.1 }

-- the values that an operation sets
pub record Wanted : Type 0 where
  pub size : Option ℕ
  pub list : Option (List Entry)
  pub mode : Option ℕ
  pub owner : Option ℕ
  pub group : Option ℕ
  pub access : Option SetTime
  pub modify : Option SetTime
  pub dacl : Option (List Entry)
  pub sacl : Option (List Entry)

-- no value is set
abbrev pub nothing : Wanted
nothing = record {
  size = None;
  list = None;
  mode = None;
  owner = None;
  group = None;
  access = None;
  modify = None;
  dacl = None;
  sacl = None;
}

abbrev pub made : Option ℕ → Option (List Entry) → Option ℕ → Option ℕ → Option ℕ → Option SetTime → Option SetTime
    → Option (List Entry) → Option (List Entry) → Wanted
made size list mode owner group access modify dacl sacl =
    record {
      size = size;
      list = list;
      mode = mode;
      owner = owner;
      group = group;
      access = access;
      modify = modify;
      dacl = dacl;
      sacl = sacl;
    }

-- whether an access control list (ACL) is set, or a part of one
abbrev pub has_acl : Wanted → Bool
has_acl wanted = is_some wanted.list || is_some wanted.dacl || is_some wanted.sacl

infixl 10 ◌>>◌
abbrev pub ◌>>◌ : {A B : Type 0} → Result A Status → (A → Result B Status) → Result B Status
(Ok x) >> f = f x
(Err status) >> f = Err status

-- the status for an ACL that is refused
abbrev pub status_of : AdmitFault → Status
status_of faults.NoSpc = status.NoSpc
status_of faults.AttrNotSupp = status.AttrNotSupp
status_of faults.Inval = status.Inval
status_of faults.BadOwner = status.BadOwner
status_of faults.Memory = status.Delay

-- each value, or its fault
abbrev pub unless : Option AdmitFault → List Entry → Result (Option (List Entry)) Status
unless None list = Ok (Some list)
unless (Some fault) list = Err (status_of fault)

abbrev pub taken_acl : Content → Kind → Option (List (Value ace)) → Result (Option (List Entry)) Status
taken_acl book kind None = Ok None
taken_acl book kind (Some entries) =
    unless (first_fault (map (raw_of book) entries)) (admitted kind (map (raw_of book) entries))

-- 4095 is 07777 in octal
abbrev pub taken_mode : Option ℕ → Result (Option ℕ) Status
taken_mode None = Ok None
taken_mode (Some mode) = if nat_lt 4095 mode then Err status.Inval else Ok (Some mode)

abbrev pub known : Option ℕ → Result (Option ℕ) Status
known None = Err status.BadOwner
known (Some number) = Ok (Some number)

abbrev pub taken_name : Content → NameKind → Option (List ℕ) → Result (Option ℕ) Status
taken_name book kind None = Ok None
taken_name book kind (Some name) = known (principal_in kind book name)

-- the values after the ACL: the mode, the owner and the group
abbrev pub Plain : Type 0
Plain = Option ℕ × (Option ℕ × Option ℕ)

abbrev pub mode_of : Plain → Option ℕ
mode_of plain = plain.0

abbrev pub owner_of : Plain → Option ℕ
owner_of plain = plain.1.0

abbrev pub group_of : Plain → Option ℕ
group_of plain = plain.1.1

abbrev pub taken_plain : Content → Option ℕ → Option (List ℕ) → Option (List ℕ) → Result Plain Status
taken_plain book mode owner group =
    taken_mode mode >> λ m. taken_name book kinds.User owner >> λ o. taken_name book kinds.Group group
    >> λ g. Ok (m, (o, g))

-- the times that are set: time_access, time_modify
abbrev pub Times : Type 0
Times = Option SetTime × Option SetTime

abbrev pub taken_times : Option (Value settime) → Option (Value settime) → Result Times Status
taken_times access modify = taken_time access >> λ a. taken_time modify >> λ m. Ok (a, m)

-- A part of an ACL. Automatic inheritance isn't supported; no flag of the ACL is therefore known (section 6.4.3.2). The
-- flags are checked before the ACEs.
abbrev pub taken_part : Part → Content → Kind → Option (Value acl41) → Result (Option (List Entry)) Status
taken_part part book kind None = Ok None
taken_part part book kind (Some sent) =
    if not (sent.0 == 0) then Err status.AttrNotSupp
    else unless (part_fault part kind (map (raw_of book) sent.1)) (admitted kind (map (raw_of book) sent.1))

abbrev pub Parts : Type 0
Parts = Option (List Entry) × Option (List Entry)

abbrev pub taken_parts : Content → Kind → Option (Value acl41) → Option (Value acl41) → Result Parts Status
taken_parts book kind dacl sacl =
    taken_part Dacl book kind dacl >> λ d. taken_part Sacl book kind sacl >> λ s. Ok (d, s)

-- all values, or the first fault, by rising number
abbrev pub taken_each : Content → Kind → Sent → Result Wanted Status
taken_each book kind sent =
    taken_acl book kind sent.entries >> λ list.
    taken_plain book sent.mode sent.owner sent.group >> λ plain.
    taken_times sent.access sent.modify >> λ times.
    taken_parts book kind sent.dacl sent.sacl >> λ parts.
    Ok (made sent.size list (mode_of plain) (owner_of plain) (group_of plain) times.0 times.1 parts.0 parts.1)

-- whether both an ACL and a part of one are set
abbrev pub is_set_twice : Sent → Bool
is_set_twice sent = is_some sent.entries && (is_some sent.dacl || is_some sent.sacl)

abbrev pub taken : Content → Kind → Sent → Result Wanted Status
taken book kind sent = if is_set_twice sent then Err status.Inval else taken_each book kind sent

abbrev pub spelled : Content → Kind → Option Sent → Result Wanted Status
spelled book kind None = Err status.BadXdr
spelled book kind (Some sent) = taken book kind sent

-- The values that sent attributes set on an object of this type, or the first fault over the whole set. The faults come
-- in this order. An attribute isn't supported in the profile, with or without times; one can't be set; the bytes aren't
-- exactly the values; an ACL is beside a part of one; a value has a fault.
abbrev pub wanted_of : (times : Bool) → Content → Kind → List ℕ → List ℕ → Result Wanted Status
wanted_of times book kind set bytes =
    if not (is_within set (supported_words times)) then Err status.AttrNotSupp
    else if not (is_within set settable_words) then Err status.Inval
    else spelled book kind (whole (sent_at set bytes))
