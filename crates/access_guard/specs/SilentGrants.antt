-- The demands that need no walk over an access control list (ACL).
use Rattle.std.specs.Prelude.{◌≡◌, ◌⊎◌, ℕ, All, MatchOption, IsSome, List}
use Rattle.std.specs.Map.{lookup}
use Rattle.rpc_record.specs.Identity.{Identity}
use Rattle.acl_list.specs.Places as places
use Rattle.acl_list.specs.Summaries.{watched_bits}
use Rattle.acl_list.specs.declared.mask.TheConstants.{DELETE, DELETE_CHILD}
use Rattle.acl_list.specs.declared.answer.FirstMatch.{FirstMatch}
use Rattle.acl_list.specs.declared.answer.FirstMatch.TheVariants.{AllowedBy}
use Rattle.acl_list.specs.declared.answer.Summary.{Summary}
use Rattle.acl_list.specs.declared.answer.Verdict.TheVariants.{Granted}
use Rattle.access_rows.specs.declared.demand.Demand.{Demand}
use Rattle.access_rows.specs.declared.demand.Demand.TheVariants.{Bits, Removal, ServerTime}
use Rattle.access_guard.specs.declared.memory.Key.{Key}
use Rattle.access_guard.specs.Keys.{is_key}
use Rattle.access_guard.specs.Lists.{Lists, names, verdict_at, first_match_at}
use Rattle.access_guard.specs.Decisions.{server_time_mask}

-- the first matching access control entry (ACE) of the bit is an ALLOW
abbrev pub IsAllow : FirstMatch → Type 0
IsAllow m = (index : ℕ) × (m ≡ AllowedBy index)

-- the demand is granted, and a removal is granted by DELETE or by DELETE_CHILD
abbrev pub IsAllowed : Lists → Identity → Demand → Type 0
IsAllowed lists caller (Bits object mask) = verdict_at lists caller object mask ≡ Granted
IsAllowed lists caller (Removal parent target) =
    IsAllow (first_match_at lists caller target places.delete)
    ⊎ IsAllow (first_match_at lists caller parent places.delete_child)
IsAllowed lists caller (ServerTime object) =
    verdict_at lists caller object (server_time_mask lists caller object) ≡ Granted

-- the object exists, and no ACE of its ACL watches a bit of the mask for success
abbrev pub IsQuietAt : Lists → Identity → ℕ → ℕ → Type 0
IsQuietAt lists caller object mask =
    MatchOption (lists object) ⊥ (λ j. All (λ e. watched_bits (names j caller) places.successful mask e ≡ 0) j.list)

-- no ACE watches a bit of the demand for success
abbrev pub IsQuiet : Lists → Identity → Demand → Type 0
IsQuiet lists caller (Bits object mask) = IsQuietAt lists caller object mask
IsQuiet lists caller (Removal parent target) =
    IsQuietAt lists caller target DELETE × IsQuietAt lists caller parent DELETE_CHILD
IsQuiet lists caller (ServerTime object) = IsQuietAt lists caller object (server_time_mask lists caller object)

-- each look-up finds a remembered summary
abbrev pub AreHits : List (Key × Summary) → List (Key × Summary) → Type 0
AreHits looks remembered = All (λ look. IsSome (lookup (is_key look.0) remembered)) looks
