-- The decision of the guard that has a reason: what its line in the trail names.
use Rattle.std.specs.Prelude.{ℕ, List, ◌++◌}
use Rattle.rpc_record.specs.Identity.{Identity}
use Rattle.acl_list.specs.declared.mask.TheConstants.{DELETE, DELETE_CHILD, ADD_FILE}
use Rattle.node_tree.specs.Judged.{Judged}
use Rattle.access_rows.specs.declared.demand.Demand.{Demand}
use Rattle.access_guard.specs.declared.line.Line.{Line}
use Rattle.access_guard.specs.Lists.{Lists}
use Rattle.access_guard.specs.Decisions.{is_granted}
use Rattle.access_guard.specs.Lines.{demand_lines, deny_lines}
use Rattle.access_guard.specs.declared.decision.Decision.{Decision}
use Rattle.access_guard.specs.declared.decision.Decision.TheVariants as decisions
use Rattle.access_guard.specs.declared.decision.Cause.TheVariants as causes
use Rattle.acl_reasons.specs.Removals.{Side}
use Rattle.acl_reasons.specs.declared.reason.Reason.{Reason}
use Rattle.acl_reasons.specs.declared.reason.Reason.TheVariants.{Granted, Denied, Missing}
use Rattle.acl_reasons.specs.declared.removal.RemovalReason.{RemovalReason}
use Rattle.acl_reasons.specs.declared.removal.RemovalReason.TheVariants.{ByDelete, ByDeleteChild, ByAddFile}
use Rattle.acl_reasons.specs.declared.removal.RemovalReason.TheVariants.{DeleteChildDenied, DeleteDenied}
use Rattle.acl_reasons.specs.declared.removal.RemovalReason.TheVariants.{AddFileDenied, AddFileMissing}

-- an object's side, without its stamp
abbrev pub side_of : Judged → Side
side_of j = record { owner = j.owner; group = j.group; list = j.list }

-- the decision on bits of an object
abbrev pub decided : ℕ → ℕ → Reason → Decision
decided object mask Granted = decisions.Granted
decided object mask (Denied index bit) = decisions.Refused object mask (causes.ByEntry index)
decided object mask (Missing bit) = decisions.Refused object mask (causes.Missing bit)

-- the decision on the removal of a target from a parent
abbrev pub decided_removal : ℕ → ℕ → RemovalReason → Decision
decided_removal parent target (ByDelete index) = decisions.Granted
decided_removal parent target (ByDeleteChild index) = decisions.Granted
decided_removal parent target ByAddFile = decisions.Granted
decided_removal parent target (DeleteChildDenied index) = decisions.Refused parent DELETE_CHILD (causes.ByEntry index)
decided_removal parent target (DeleteDenied index) = decisions.Refused target DELETE (causes.ByEntry index)
decided_removal parent target (AddFileDenied index) = decisions.Refused parent ADD_FILE (causes.ByEntry index)
decided_removal parent target AddFileMissing = decisions.Refused parent ADD_FILE (causes.Missing ADD_FILE)

-- the lines of a demand by a decision: those of the access control entries (ACEs) that watch, and then the DENY line of
-- a refusal
abbrev pub traced : Lists → Identity → ℕ → Demand → Decision → List Line
traced lists caller op demand d = demand_lines lists caller op (is_granted d) demand ++ deny_lines caller op d
