-- The summary of an access control list for a requester: the bits that it allows, and the bits that it watches (RFC
-- 8881, section 6.2.1).
use Rattle.std.specs.Prelude.{ℕ, Bool, not, ◌&&◌, if◌then◌else◌, List, bit_and}
use Rattle.std.specs.List.{list_any}
use Rattle.acl_list.specs.Mask.{has_bit, BitsAre, mask_of}
use Rattle.acl_list.specs.Places.{successful, failed}
use Rattle.acl_list.specs.Deciding.{allows_or_denies, concerns, allows}
use Rattle.acl_list.specs.declared.entry.Entry.{Entry}
use Rattle.acl_list.specs.declared.entry.Who.{Who}
use Rattle.acl_list.specs.declared.answer.Summary.{Summary}

-- an AUDIT or ALARM access control entry (ACE) that concerns the requester and has this flag: SUCCESSFUL for granted
-- access, FAILED for refused access (section 6.2.1.4.1)
abbrev pub is_watching : (Who → Bool) → ℕ → Entry → Bool
is_watching names flag e = not (allows_or_denies e.kind) && concerns names e && has_bit e.flags flag

-- the flag for granted access, or for refused access
abbrev pub watch_flag : Bool → ℕ
watch_flag granted = if granted then successful else failed

-- the ACE watches the bit
abbrev pub watches : (Who → Bool) → ℕ → ℕ → Entry → Bool
watches names flag bit e = is_watching names flag e && has_bit e.mask bit

-- the bits of the mask that the ACE watches
abbrev pub watched_bits : (Who → Bool) → ℕ → ℕ → Entry → ℕ
watched_bits names flag mask e = if is_watching names flag e then bit_and e.mask mask else 0

-- whether an ACE watches the bit
abbrev pub is_watched : (Who → Bool) → ℕ → List Entry → ℕ → Bool
is_watched names flag entries bit = list_any (watches names flag bit) entries

-- the bits that the ACEs allow
abbrev pub granted_mask : (Who → Bool) → List Entry → ℕ
granted_mask names entries = mask_of (allows names entries)

-- the bits that the ACEs watch under this flag
abbrev pub watched_mask : (Who → Bool) → ℕ → List Entry → ℕ
watched_mask names flag entries = mask_of (is_watched names flag entries)

-- the bits that the ACEs allow, and those that they watch for success and for failure
abbrev pub summary : (Who → Bool) → List Entry → Summary
summary names entries = record {
  granted = granted_mask names entries;
  watch_ok = watched_mask names successful entries;
  watch_fail = watched_mask names failed entries;
}

-- the summary, bit by bit
pub record IsSummary (names : Who → Bool) (entries : List Entry) (s : Summary) : Type 0 where
  pub granted : BitsAre s.granted (allows names entries)
  pub watch_ok : BitsAre s.watch_ok (is_watched names successful entries)
  pub watch_fail : BitsAre s.watch_fail (is_watched names failed entries)
