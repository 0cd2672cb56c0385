-- Access control entries (ACEs) as text, `TYPE:FLAGS:PRINCIPAL:PERMISSIONS`, with the principal as text.
use Rattle.std.specs.Prelude.{ℕ, ◌==◌, Bool, ◌&&◌, if◌then◌else◌, is_none, List, [], ◌∷◌, ◌++◌, slice_index, Option}
use Rattle.std.specs.Prelude.{Some, None, option_and_then, option_map, Result, Ok, Err, bit_and}
use Rattle.std.specs.Int.{w32, from_be_bytes, to_be_bytes}
use Rattle.hex.specs.Hex.{decode_sized, encode_lower}
use Rattle.acl_list.specs.declared.mask.TheConstants as mask
use Rattle.acl_list.specs.declared.entry.Kind.{Kind}
use Rattle.acl_list.specs.declared.entry.EntryKind.{EntryKind}
use Rattle.acl_list.specs.declared.entry.EntryKind.TheVariants.{Allow, Deny, Audit, Alarm}
use Rattle.acl_words.specs.Fields.{split_at, split_at_last, prefix_or}
use Rattle.acl_words.specs.Letters.{flag_letters, flags_in, permissions_in, letters_text, permissions_text}
use Rattle.acl_words.specs.declared.field.Field.{Field}
use Rattle.acl_words.specs.declared.field.Field.TheVariants.{Form, EntryType, Flags, Permissions}

pub record EntryWords : Type 0 where
  pub kind : EntryKind
  pub flags : ℕ
  pub mask : ℕ
  -- the principal as text
  pub who : List ℕ

-- ---- the type

-- A for ALLOW, D for DENY, U for AUDIT, L for ALARM
abbrev pub letter_of : EntryKind → ℕ
letter_of Allow = 65
letter_of Deny = 68
letter_of Audit = 85
letter_of Alarm = 76

abbrev pub kind_at : ℕ → Option EntryKind
kind_at byte =
    if byte == 65 then Some Allow
    else if byte == 68 then Some Deny
    else if byte == 85 then Some Audit
    else if byte == 76 then Some Alarm
    else None

-- the type of a text of one letter
abbrev pub kind_in : List ℕ → Option EntryKind
kind_in (byte ∷ []) = kind_at byte
kind_in _ = None

-- ---- the hexadecimal form

abbrev pub byte_in : {E : Type 0} → Result (List ℕ) E → Option ℕ
byte_in (Ok bytes) = Some (slice_index bytes 0)
byte_in (Err fault) = None

abbrev pub word_in : {E : Type 0} → Result (List ℕ) E → Option ℕ
word_in (Ok bytes) = Some (from_be_bytes w32 bytes)
word_in (Err fault) = None

-- the flags and the mask, if the flags are two hexadecimal digits and the mask eight
unfoldable pub numbers_in : List ℕ → List ℕ → Option (ℕ × ℕ)
numbers_in flags mask =
    option_and_then (λ f. option_map (λ m. (f, m)) (word_in (decode_sized mask 4))) (byte_in (decode_sized flags 1))

-- ---- reading

infixl 10 ◌>>=◌
abbrev pub ◌>>=◌ : {A B : Type 0} → Result A Field → (A → Result B Field) → Result B Field
Ok x >>= f = f x
Err fault >>= f = Err fault

abbrev pub or_fault : {A : Type 0} → Field → Option A → Result A Field
or_fault fault None = Err fault
or_fault fault (Some x) = Ok x

-- flags, principal and permissions in letters; the principal ends at the last colon
abbrev pub lettered : Kind → EntryKind → List ℕ → Option (List ℕ × List ℕ) → Result EntryWords Field
lettered object kind flags None = Err Form
lettered object kind flags (Some parts) = do
  f ← or_fault Flags (flags_in flags)
  m ← or_fault Permissions (permissions_in object parts.1)
  Ok (record { kind = kind; flags = f; mask = m; who = parts.0 })

-- in the hexadecimal form the principal is everything after the third colon
abbrev pub entry_words_by : Kind → EntryKind → List ℕ → List ℕ → List ℕ → Option (ℕ × ℕ) → Result EntryWords Field
entry_words_by object kind flags rest who (Some numbers) =
    Ok (record { kind = kind; flags = numbers.0; mask = numbers.1; who = who })
entry_words_by object kind flags rest who None = lettered object kind flags (split_at_last 58 rest)

-- The ACE of a text: at least three colons (58), the type, then the other fields. It is in the hexadecimal form if its
-- second field is two hexadecimal digits and its third eight, and else in letters.
unfoldable pub entry_words_in : Kind → List ℕ → Result EntryWords Field
entry_words_in object text = do
  first ← or_fault Form (split_at 58 text)
  second ← or_fault Form (split_at 58 first.1)
  third ← or_fault Form (split_at 58 second.1)
  kind ← or_fault EntryType (kind_in first.0)
  entry_words_by object kind second.0 second.1 third.1 (numbers_in second.0 third.0)

-- ---- writing

-- the third field in letters
abbrev pub third_field : List ℕ → List ℕ
third_field who = prefix_or who (split_at 58 who)

-- Letters express the ACE: each bit of the mask has a text, and the text isn't one of the hexadecimal form.
unfoldable pub is_lettered : EntryWords → Bool
is_lettered e =
    (bit_and e.mask mask.DEFINED == e.mask)
    && is_none (numbers_in (letters_text flag_letters e.flags) (third_field e.who))

abbrev pub letters_prefix : EntryWords → List ℕ
letters_prefix e = letter_of e.kind ∷ 58 ∷ letters_text flag_letters e.flags ++ 58 ∷ []

abbrev pub numbers_prefix : EntryWords → List ℕ
numbers_prefix e =
    letter_of e.kind ∷ 58 ∷ encode_lower (e.flags ∷ []) ++ 58 ∷ encode_lower (to_be_bytes w32 e.mask) ++ 58 ∷ []

-- the part before the principal
abbrev pub prefix_text : EntryWords → List ℕ
prefix_text e = if is_lettered e then letters_prefix e else numbers_prefix e

-- the part after the principal
abbrev pub back_text : EntryWords → List ℕ
back_text e = if is_lettered e then 58 ∷ permissions_text e.mask else []

-- the text of an ACE: in letters if they express it, else in the hexadecimal form
abbrev pub entry_words_text : EntryWords → List ℕ
entry_words_text e = prefix_text e ++ e.who ++ back_text e
