-- The decision of access control lists (ACLs) on a demand.
use Rattle.std.specs.Prelude.{ℕ, Bool, true, false, if◌then◌else◌}
use Rattle.rpc_record.specs.Identity.{Identity}
use Rattle.acl_list.specs.Places as places
use Rattle.acl_list.specs.declared.mask.TheConstants.{DELETE, DELETE_CHILD, ADD_FILE, WRITE_ATTRIBUTES, WRITE_DATA}
use Rattle.acl_list.specs.declared.answer.Verdict.{Verdict}
use Rattle.acl_list.specs.declared.answer.Verdict.TheVariants as verdicts
use Rattle.acl_list.specs.declared.answer.FirstMatch.{FirstMatch}
use Rattle.acl_list.specs.declared.answer.FirstMatch.TheVariants.{Unmatched, AllowedBy, DeniedBy}
use Rattle.access_rows.specs.declared.demand.Demand.{Demand}
use Rattle.access_rows.specs.declared.demand.Demand.TheVariants.{Bits, Removal, ServerTime}
use Rattle.access_guard.specs.declared.decision.Decision.{Decision}
use Rattle.access_guard.specs.declared.decision.Decision.TheVariants.{Granted, Refused}
use Rattle.access_guard.specs.declared.decision.Cause.TheVariants.{ByEntry, Missing}
use Rattle.access_guard.specs.Lists.{Lists, verdict_at, first_match_at}

-- A refusal names the object and the bits demanded of it. Its cause is the access control entry (ACE) that denies, or
-- the bit that no ACE allows.
abbrev pub answer : ℕ → ℕ → Verdict → Decision
answer object mask verdicts.Granted = Granted
answer object mask (verdicts.Denied index) = Refused object mask (ByEntry index)
answer object mask (verdicts.Missing bit) = Refused object mask (Missing bit)

-- Whether a name of the target may be removed from the parent (RFC 8881, section 6.2.1.3.2). DELETE in the target's ACL
-- decides, and DELETE_CHILD and ADD_FILE in the parent's. An ALLOW of DELETE or of DELETE_CHILD suffices, whatever the
-- other ACL has. ADD_FILE suffices if no ACE matches DELETE and none DELETE_CHILD. A refusal names the parent's DENY of
-- DELETE_CHILD, if any. Otherwise it names the target's DENY of DELETE, if any, else the refusal of ADD_FILE.
abbrev pub removal : ℕ → ℕ → FirstMatch → FirstMatch → Verdict → Decision
removal parent target (AllowedBy index) on_parent add = Granted
removal parent target (DeniedBy index) (AllowedBy other) add = Granted
removal parent target (DeniedBy index) (DeniedBy other) add = Refused parent DELETE_CHILD (ByEntry other)
removal parent target (DeniedBy index) Unmatched add = Refused target DELETE (ByEntry index)
removal parent target Unmatched (AllowedBy other) add = Granted
removal parent target Unmatched (DeniedBy other) add = Refused parent DELETE_CHILD (ByEntry other)
removal parent target Unmatched Unmatched add = answer parent ADD_FILE add

abbrev pub is_granting : Verdict → Bool
is_granting verdicts.Granted = true
is_granting (verdicts.Denied index) = false
is_granting (verdicts.Missing bit) = false

-- The bit that decides whether a time may be set to the server's own (RFC 8881, section 6.2.1.3.1), by the verdicts on
-- WRITE_ATTRIBUTES and on WRITE_DATA. It is WRITE_DATA where that alone is granted, also where an access control entry
-- denies WRITE_ATTRIBUTES. Otherwise it is WRITE_ATTRIBUTES.
abbrev pub time_mask : Verdict → Verdict → ℕ
time_mask on_attributes on_data =
    if is_granting on_attributes then WRITE_ATTRIBUTES
    else if is_granting on_data then WRITE_DATA
    else WRITE_ATTRIBUTES

abbrev pub server_time_mask : Lists → Identity → ℕ → ℕ
server_time_mask lists caller object =
    time_mask (verdict_at lists caller object WRITE_ATTRIBUTES) (verdict_at lists caller object WRITE_DATA)

-- a time of the server's is decided as bits of its mask
abbrev pub decision : Lists → Identity → Demand → Decision
decision lists caller (Bits object mask) = answer object mask (verdict_at lists caller object mask)
decision lists caller (Removal parent target) =
    removal parent target (first_match_at lists caller target places.delete)
    (first_match_at lists caller parent places.delete_child) (verdict_at lists caller parent ADD_FILE)
decision lists caller (ServerTime object) =
    answer object (server_time_mask lists caller object)
    (verdict_at lists caller object (server_time_mask lists caller object))

abbrev pub is_granted : Decision → Bool
is_granted Granted = true
is_granted (Refused object mask cause) = false
