-- ACEs (access control entries) as text, `TYPE:FLAGS:MASK:WHO`.
use Rattle.std.specs.Prelude.{ℕ, ◌==◌, if◌then◌else◌, List, [], ◌∷◌, ◌++◌, Option, Some, None, option_and_then}
use Rattle.std.specs.Prelude.{option_map}
use Rattle.std.specs.Int.{w32, from_be_bytes}
use Rattle.acl_list.specs.declared.entry.EntryKind.{EntryKind}
use Rattle.acl_list.specs.declared.entry.EntryKind.TheVariants.{Allow, Deny, Audit, Alarm}
use Rattle.nfs_client.specs.Digits.{hex_byte, byte_in, hex_word}

pub record EntryLine : Type 0 where
  pub kind : EntryKind
  pub flags : ℕ
  pub mask : ℕ
  pub who : List ℕ

-- A for ALLOW, D for DENY, U for AUDIT, L for ALARM
abbrev pub letter : EntryKind → ℕ
letter Allow = 65
letter Deny = 68
letter Audit = 85
letter Alarm = 76

abbrev pub kind_in : ℕ → Option EntryKind
kind_in b =
    if b == 65 then Some Allow
    else if b == 68 then Some Deny
    else if b == 85 then Some Audit
    else if b == 76 then Some Alarm
    else None

-- two digits at the start, and the rest after them
abbrev pub byte_at : List ℕ → Option (ℕ × List ℕ)
byte_at (high ∷ low ∷ rest) = option_map (λ n. (n, rest)) (byte_in high low)
byte_at _ = None

-- eight digits at the start, and the rest after them
abbrev pub word_at : List ℕ → Option (ℕ × List ℕ)
word_at text =
    option_and_then
    (λ a. option_and_then
    (λ b. option_and_then
    (λ c. option_and_then (λ d. Some (from_be_bytes w32 (a.0 ∷ b.0 ∷ c.0 ∷ d.0 ∷ []), d.1)) (byte_at c.1))
    (byte_at b.1))
    (byte_at a.1))
    (byte_at text)

abbrev pub kind_at : List ℕ → Option (EntryKind × List ℕ)
kind_at (b ∷ rest) = option_map (λ kind. (kind, rest)) (kind_in b)
kind_at [] = None

-- the rest after a colon at the start
abbrev pub after_colon : List ℕ → Option (List ℕ)
after_colon (b ∷ rest) = if b == 58 then Some rest else None
after_colon [] = None

-- A letter, two and eight hexadecimal digits in either case, with a colon after each; the principal is all of the
-- rest.
abbrev pub entry_in : List ℕ → Option EntryLine
entry_in text =
    option_and_then (λ kind. option_and_then (λ a.
    option_and_then (λ flags. option_and_then (λ b.
    option_and_then
    (λ mask. option_and_then (λ who. Some (record { kind = kind.0; flags = flags.0; mask = mask.0; who = who }))
    (after_colon mask.1)) (word_at b)) (after_colon flags.1)) (byte_at a)) (after_colon kind.1)) (kind_at text)

-- the text of an ACE, in lower case
abbrev pub entry_head : EntryLine → List ℕ
entry_head e = letter e.kind ∷ 58 ∷ hex_byte e.flags ++ 58 ∷ hex_word e.mask ++ 58 ∷ []

abbrev pub entry_text : EntryLine → List ℕ
entry_text e = entry_head e ++ e.who
