-- The reason for the verdict of an access control list on a mask (RFC 8881, section 6.2.1).
use Rattle.std.specs.Prelude.{ℕ, ◌^◌, ◌==◌, ◌&&◌, Bool, false, List, find}
use Rattle.std.specs.Option.{option_map_or}
use Rattle.acl_list.specs.Mask.{has_bit, places}
use Rattle.acl_list.specs.Deciding.{first_match, match_of}
use Rattle.acl_list.specs.Verdicts.{verdict}
use Rattle.acl_list.specs.declared.entry.Entry.{Entry}
use Rattle.acl_list.specs.declared.entry.Who.{Who}
use Rattle.acl_list.specs.declared.answer.FirstMatch.{FirstMatch}
use Rattle.acl_list.specs.declared.answer.FirstMatch.TheVariants.{Unmatched, AllowedBy, DeniedBy}
use Rattle.acl_list.specs.declared.answer.Verdict.{Verdict}
use Rattle.acl_list.specs.declared.answer.Verdict.TheVariants as verdicts
use Rattle.acl_reasons.specs.declared.reason.Reason.{Reason}
use Rattle.acl_reasons.specs.declared.reason.Reason.TheVariants.{Granted, Denied, Missing}

-- the first matching access control entry (ACE) of the bit is the DENY at this index
abbrev pub is_denied_by : ℕ → FirstMatch → Bool
is_denied_by index Unmatched = false
is_denied_by index (AllowedBy other) = false
is_denied_by index (DeniedBy other) = other == index

-- the bit at the lowest place that passes
unfoldable pub lowest_bit : (ℕ → Bool) → ℕ
lowest_bit test = option_map_or (λ place. 2 ^ place) (find test places) 0

-- the mask has the bit at the place, and the ACE at the index denies it
abbrev pub is_denied : (Who → Bool) → List Entry → ℕ → ℕ → ℕ → Bool
is_denied names entries mask index place =
    has_bit mask place && is_denied_by index (match_of (first_match names entries place))

-- the lowest bit of the mask that the ACE at the index denies
abbrev pub denied_bit : (Who → Bool) → List Entry → ℕ → ℕ → ℕ
denied_bit names entries mask index = lowest_bit (is_denied names entries mask index)

abbrev pub reason_of : (ℕ → ℕ) → Verdict → Reason
reason_of bit verdicts.Granted = Granted
reason_of bit (verdicts.Denied index) = Denied index (bit index)
reason_of bit (verdicts.Missing value) = Missing value

-- the verdict, and for a denial the lowest bit that the ACE denies
abbrev pub reason : (Who → Bool) → List Entry → ℕ → Reason
reason names entries mask = reason_of (denied_bit names entries mask) (verdict names entries mask)

-- the verdict that has the reason
abbrev pub verdict_in : Reason → Verdict
verdict_in Granted = verdicts.Granted
verdict_in (Denied index bit) = verdicts.Denied index
verdict_in (Missing value) = verdicts.Missing value
