-- Attributes as a client reads them: those that it requests, and those that it sets.
use Rattle.std.specs.Prelude.{ℕ, ◌+◌, not, if◌then◌else◌, List, [], ◌∷◌, Option, Some, None, is_some, Result, Ok, Err}
use Rattle.std.specs.List.{flat_map}
use Rattle.xdr_wire.specs.Xdr.{Xdr, Value, uint, hyper, spelling}
use Rattle.xdr_wire.specs.Reading.{◌>>=◌, Read}
use Rattle.xdr_wire.specs.declared.fault.XdrFault.{XdrFault}
use Rattle.xdr_wire.specs.declared.fault.XdrFault.TheVariants.{TooLong, BadChoice}
use Rattle.nfs_types.specs.Forms.{trimmed}
use Rattle.nfs_types.specs.Sets.{has_number}
use Rattle.nfs_types.specs.Attributes.{text, ace, acl, acl41, is_within}
use Rattle.nfs_types.specs.Sent.{chosen_at}
use Rattle.nfs_types.specs.Times.{settime}
use Rattle.nfs_types.specs.declared.attribute.Attribute.{Attribute}
use Rattle.nfs_types.specs.declared.attribute.Attribute.TheVariants.{ObjectType, Size, RdattrError, Acl, Mode, Owner}
use Rattle.nfs_types.specs.declared.attribute.Attribute.TheVariants.{OwnerGroup, TimeAccessSet, TimeModifySet}
use Rattle.nfs_types.specs.declared.attribute.Attribute.TheVariants.{Dacl, Sacl}

-- the values; None if an attribute isn't present
pub record Seen : Type 0 where
  pub kind : Option ℕ
  pub size : Option ℕ
  pub error : Option ℕ
  pub entries : Option (List (Value ace))
  pub mode : Option ℕ
  pub owner : Option (List ℕ)
  pub group : Option (List ℕ)
  pub access : Option (Value settime)
  pub modify : Option (Value settime)
  pub dacl : Option (Value acl41)
  pub sacl : Option (Value acl41)

-- the set of these attributes: 1 type, 4 size, 11 rdattr_error, 12 acl, 33 mode, 36 owner, 37
-- owner_group, 48 time_access_set, 54 time_modify_set, 58 dacl, 59 sacl
abbrev pub seen_words : List ℕ
seen_words = 0x0000_1812 ∷ 0x0c41_0032 ∷ []

-- one value after the other, by rising number
abbrev pub seen_at : List ℕ → List ℕ → Read Seen
seen_at set bytes =
    chosen_at (has_number set 1) uint bytes >>= λ a.
    chosen_at (has_number set 4) hyper a.1 >>= λ b.
    chosen_at (has_number set 11) uint b.1 >>= λ c.
    chosen_at (has_number set 12) acl c.1 >>= λ d.
    chosen_at (has_number set 33) uint d.1 >>= λ e.
    chosen_at (has_number set 36) text e.1 >>= λ f.
    chosen_at (has_number set 37) text f.1 >>= λ g.
    chosen_at (has_number set 48) settime g.1 >>= λ h.
    chosen_at (has_number set 54) settime h.1 >>= λ i.
    chosen_at (has_number set 58) acl41 i.1 >>= λ j.
    chosen_at (has_number set 59) acl41 j.1 >>= λ k.
    Ok (
      record {
        kind = a.0;
        size = b.0;
        error = c.0;
        entries = d.0;
        mode = e.0;
        owner = f.0;
        group = g.0;
        access = h.0;
        modify = i.0;
        dacl = j.0;
        sacl = k.0;
      },
      k.1,
    )

-- no bytes follow the values
abbrev pub ended : Read Seen → Result Seen XdrFault
ended (Ok (seen, [])) = Ok seen
ended (Ok (seen, b ∷ bytes)) = Err TooLong
ended (Err fault) = Err fault

-- the values that the bytes encode, all of the bytes; a client knows no other attribute
abbrev pub seen_of : List ℕ → List ℕ → Result Seen XdrFault
seen_of set bytes = if not (is_within set seen_words) then Err BadChoice else ended (seen_at set bytes)

-- ---- the values, as a client writes them

-- these attributes, by rising number
abbrev pub seen_all : List Attribute
seen_all =
    ObjectType ∷ Size ∷ RdattrError ∷ Acl ∷ Mode ∷ Owner ∷ OwnerGroup ∷ TimeAccessSet ∷ TimeModifySet ∷ Dacl ∷ Sacl
    ∷ []

abbrev pub optional_spelling : (t : Xdr) → Option (Value t) → List ℕ
optional_spelling t None = []
optional_spelling t (Some v) = spelling t v

-- the bytes of an attribute, if it is present
abbrev pub client_part : Seen → Attribute → List ℕ
client_part s ObjectType = optional_spelling uint s.kind
client_part s Size = optional_spelling hyper s.size
client_part s RdattrError = optional_spelling uint s.error
client_part s Acl = optional_spelling acl s.entries
client_part s Mode = optional_spelling uint s.mode
client_part s Owner = optional_spelling text s.owner
client_part s OwnerGroup = optional_spelling text s.group
client_part s TimeAccessSet = optional_spelling settime s.access
client_part s TimeModifySet = optional_spelling settime s.modify
client_part s Dacl = optional_spelling acl41 s.dacl
client_part s Sacl = optional_spelling acl41 s.sacl
client_part s _ = []

-- the values, one after the other
unfoldable pub client_values : Seen → List ℕ
client_values s = flat_map (client_part s) seen_all

abbrev pub bit_if : {X : Type 0} → Option X → ℕ → ℕ
bit_if value bit = if is_some value then bit else 0

-- the second word of the set of the attributes that are present
abbrev pub second_word : Seen → ℕ
second_word s =
    bit_if s.mode 0x2 + bit_if s.owner 0x10 + bit_if s.group 0x20 + bit_if s.access 0x1_0000
    + bit_if s.modify 0x40_0000 + bit_if s.dacl 0x400_0000 + bit_if s.sacl 0x800_0000

-- the set of the attributes that are present
abbrev pub client_set : Seen → List ℕ
client_set s =
    trimmed ((bit_if s.kind 0x2 + bit_if s.size 0x10 + bit_if s.error 0x800 + bit_if s.entries 0x1000)
    ∷ second_word s ∷ [])
