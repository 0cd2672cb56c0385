-- The lines that a decision writes to the trail (RFC 8881, sections 6.2.1.1 and 6.2.1.4.1).
use Rattle.std.specs.Prelude.{ℕ, ◌+◌, ◌==◌, Bool, false, if◌then◌else◌, List, [], ◌∷◌, ◌++◌, Option, Some, None, bit_or}
use Rattle.std.specs.List.{filter_map, enumerate_from}
use Rattle.std.specs.Option.{option_map_or}
use Rattle.rpc_record.specs.Identity.{Identity}
use Rattle.acl_list.specs.Places as places
use Rattle.acl_list.specs.Summaries.{watch_flag, watched_bits}
use Rattle.acl_list.specs.declared.mask.TheConstants.{DELETE, DELETE_CHILD, ADD_FILE}
use Rattle.acl_list.specs.declared.entry.Entry.{Entry}
use Rattle.acl_list.specs.declared.entry.EntryKind.{EntryKind}
use Rattle.acl_list.specs.declared.entry.EntryKind.TheVariants as kinds
use Rattle.acl_list.specs.declared.answer.FirstMatch.{FirstMatch}
use Rattle.acl_list.specs.declared.answer.FirstMatch.TheVariants.{Unmatched, AllowedBy, DeniedBy}
use Rattle.acl_shape.specs.declared.bounds.TheConstants.{MAX_ENTRIES}
use Rattle.node_tree.specs.Judged.{Judged}
use Rattle.access_rows.specs.declared.demand.Demand.{Demand}
use Rattle.access_rows.specs.declared.demand.Demand.TheVariants.{Bits, Removal, ServerTime}
use Rattle.access_guard.specs.declared.decision.Decision.{Decision}
use Rattle.access_guard.specs.declared.decision.Decision.TheVariants.{Granted, Refused}
use Rattle.access_guard.specs.declared.decision.Cause.TheVariants.{ByEntry}
use Rattle.access_guard.specs.declared.line.LineKind.{LineKind}
use Rattle.access_guard.specs.declared.line.LineKind.TheVariants.{Audit, Alarm, Deny}
use Rattle.access_guard.specs.declared.line.Line.{Line}
use Rattle.access_guard.specs.Lists.{Lists, names, first_match_at}
use Rattle.access_guard.specs.Decisions.{decision, is_granted, server_time_mask}

-- ---- AUDIT and ALARM lines

-- the type of the lines of an access control entry (ACE): only AUDIT and ALARM ACEs write lines
abbrev pub line_kind : EntryKind → Option LineKind
line_kind kinds.Allow = None
line_kind kinds.Deny = None
line_kind kinds.Audit = Some Audit
line_kind kinds.Alarm = Some Alarm

-- The line of the ACE at an index, for a mask that was granted or refused. It has the bits of the mask that the ACE
-- watches. An ACE that watches no bit writes no line.
abbrev pub watch_line : Identity → ℕ → ℕ → ℕ → Bool → Judged → ℕ × Entry → Option Line
watch_line caller op object mask granted j (index, e) =
    let bits = watched_bits (names j caller) (watch_flag granted) mask e in
    option_map_or (λ kind. if bits == 0 then None else Some (record {
      kind = kind;
      uid = caller.uid;
      op = op;
      object = object;
      mask = bits;
      granted = granted;
      cause = ByEntry index;
    })) (line_kind e.kind) None

-- the lines of an object's ACEs, in the order of its access control list (ACL)
abbrev pub lines_of : Option Judged → Identity → ℕ → Bool → ℕ → ℕ → List Line
lines_of o caller op granted object mask =
    option_map_or (λ j. filter_map (watch_line caller op object mask granted j) (enumerate_from 0 j.list)) o []

abbrev pub watch_lines : Lists → Identity → ℕ → Bool → ℕ → ℕ → List Line
watch_lines lists caller op granted object mask = lines_of (lists object) caller op granted object mask

-- ---- the DENY line

-- a refusal has one more line, and a grant none
abbrev pub deny_lines : Identity → ℕ → Decision → List Line
deny_lines caller op Granted = []
deny_lines caller op (Refused object mask cause) =
    record { kind = Deny; uid = caller.uid; op = op; object = object; mask = mask; granted = false; cause = cause } ∷ []

-- ---- both

-- the bits of the parent that a removal reads: ADD_FILE too, if no ACE matches DELETE and none DELETE_CHILD
abbrev pub parent_mask : FirstMatch → FirstMatch → ℕ
parent_mask (AllowedBy index) on_parent = DELETE_CHILD
parent_mask (DeniedBy index) on_parent = DELETE_CHILD
parent_mask Unmatched (AllowedBy other) = DELETE_CHILD
parent_mask Unmatched (DeniedBy other) = DELETE_CHILD
parent_mask Unmatched Unmatched = bit_or DELETE_CHILD ADD_FILE

-- the lines of the ACEs that the demand reads: of a removal the target's, then the parent's
abbrev pub demand_lines : Lists → Identity → ℕ → Bool → Demand → List Line
demand_lines lists caller op granted (Bits object mask) = watch_lines lists caller op granted object mask
demand_lines lists caller op granted (Removal parent target) =
    watch_lines lists caller op granted target DELETE
    ++ watch_lines lists caller op granted parent
    (parent_mask (first_match_at lists caller target places.delete)
    (first_match_at lists caller parent places.delete_child))
demand_lines lists caller op granted (ServerTime object) =
    watch_lines lists caller op granted object (server_time_mask lists caller object)

-- the lines of a decision: those of the ACEs that watch, then on refusal the DENY line
abbrev pub lines : Lists → Identity → ℕ → Demand → List Line
lines lists caller op demand =
    let d = decision lists caller demand in
    demand_lines lists caller op (is_granted d) demand ++ deny_lines caller op d

-- ---- the most lines of a decision

-- the most lines of a decision: one for each ACE of its ACLs, and the DENY line
abbrev pub most_lines : Demand → ℕ
most_lines (Bits object mask) = MAX_ENTRIES + 1
most_lines (Removal parent target) = MAX_ENTRIES + MAX_ENTRIES + 1
most_lines (ServerTime object) = MAX_ENTRIES + 1
