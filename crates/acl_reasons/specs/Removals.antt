-- The reason for the decision on a removal, by the access control lists (ACLs) of the parent and the target (RFC 8881,
-- section 6.2.1.3.2).
use Rattle.std.specs.Prelude.{ℕ, List}
use Rattle.rpc_record.specs.Identity.{Identity}
use Rattle.acl_list.specs.Places as places
use Rattle.acl_list.specs.Deciding.{is_true_for, first_match, match_of}
use Rattle.acl_list.specs.Verdicts.{verdict}
use Rattle.acl_list.specs.declared.mask.TheConstants.{ADD_FILE}
use Rattle.acl_list.specs.declared.entry.Entry.{Entry}
use Rattle.acl_list.specs.declared.answer.FirstMatch.{FirstMatch}
use Rattle.acl_list.specs.declared.answer.FirstMatch.TheVariants.{Unmatched, AllowedBy, DeniedBy}
use Rattle.acl_list.specs.declared.answer.Verdict.{Verdict}
use Rattle.acl_list.specs.declared.answer.Verdict.TheVariants as verdicts
use Rattle.acl_reasons.specs.declared.removal.RemovalReason.{RemovalReason}
use Rattle.acl_reasons.specs.declared.removal.RemovalReason.TheVariants.{ByDelete, ByDeleteChild, ByAddFile}
use Rattle.acl_reasons.specs.declared.removal.RemovalReason.TheVariants.{DeleteChildDenied, DeleteDenied, AddFileDenied}
use Rattle.acl_reasons.specs.declared.removal.RemovalReason.TheVariants.{AddFileMissing}

-- an object's ACL, owner and group, which decide on access to it
pub record Side : Type 0 where
  pub owner : ℕ
  pub group : ℕ
  pub list : List Entry

abbrev pub by_add_file : Verdict → RemovalReason
by_add_file verdicts.Granted = ByAddFile
by_add_file (verdicts.Denied index) = AddFileDenied index
by_add_file (verdicts.Missing bit) = AddFileMissing

-- by the access control entry (ACE) that decides DELETE_CHILD on the parent, if any
abbrev pub by_parent : FirstMatch → RemovalReason → RemovalReason
by_parent (AllowedBy index) unmatched = ByDeleteChild index
by_parent (DeniedBy index) unmatched = DeleteChildDenied index
by_parent Unmatched unmatched = unmatched

-- By the ACEs that decide DELETE on the target and DELETE_CHILD on the parent, and the verdict on ADD_FILE on the
-- parent. An ALLOW of either suffices. Else the parent's DENY refuses, else the target's. If no ACE matches either bit,
-- ADD_FILE decides.
abbrev pub by_first_matches : FirstMatch → FirstMatch → Verdict → RemovalReason
by_first_matches (AllowedBy index) on_parent add = ByDelete index
by_first_matches (DeniedBy index) on_parent add = by_parent on_parent (DeleteDenied index)
by_first_matches Unmatched on_parent add = by_parent on_parent (by_add_file add)

abbrev pub first_match_on : Side → Identity → ℕ → FirstMatch
first_match_on side caller place = match_of (first_match (is_true_for side.owner side.group caller) side.list place)

abbrev pub removal_reason : Side → Side → Identity → RemovalReason
removal_reason parent target caller =
    by_first_matches (first_match_on target caller places.delete) (first_match_on parent caller places.delete_child)
    (verdict (is_true_for parent.owner parent.group caller) parent.list ADD_FILE)
