-- getacl, getdacl and getsacl, and setacl, setdacl and setsacl: an ACL (access control list), or a part of it, as
-- text.
use Rattle.std.specs.Prelude.{◌≡◌, ◌⊎◌, ◌<◌, ℕ, length, nat_lt, ◌==◌, if◌then◌else◌, List, ◌++◌, map, Contains}
use Rattle.std.specs.Prelude.{Option, Some, None, option_and_then, option_map, Result, Ok, Err}
use Rattle.acl_list.specs.declared.entry.EntryKind.{EntryKind}
use Rattle.acl_list.specs.declared.entry.EntryKind.TheVariants.{Allow, Deny, Audit, Alarm}
use Rattle.xdr_wire.specs.Xdr.{Value}
use Rattle.xdr_wire.specs.declared.fault.XdrFault.{XdrFault}
use Rattle.nfs_types.specs.Attributes.{ace}
use Rattle.nfs_types.specs.Seen.{Seen, seen_of}
use Rattle.nfs_types.specs.Sets.{has_number}
use Rattle.nfs_ops.specs.Operations.{Operation, Known}
use Rattle.nfs_ops.specs.Results.{Outcome, Done}
use Rattle.nfs_ops.specs.declared.OpKind.TheVariants as kinds
use Rattle.nfs_client.specs.Paths.{names_in}
use Rattle.nfs_client.specs.Entries.{EntryLine, entry_in, entry_text}
use Rattle.nfs_client.specs.Lines.{lines_of}
use Rattle.nfs_client.specs.Taking.{last_of}
use Rattle.nfs_client.specs.Setting.{set_attributes, of_entries}
use Rattle.nfs_client.specs.declared.fault.ToolFault.{ToolFault}
use Rattle.nfs_client.specs.declared.acl_part.AclPart.{AclPart}
use Rattle.nfs_client.specs.declared.acl_part.AclPart.TheVariants.{Acl, Dacl, Sacl}
use Rattle.nfs_client.specs.declared.fault.ToolFault.TheVariants.{Path, Reply, Memory, Entry}

-- ---- ACEs (access control entries)

-- acetype4
abbrev pub kind_number : EntryKind → ℕ
kind_number Allow = 0
kind_number Deny = 1
kind_number Audit = 2
kind_number Alarm = 3

abbrev pub kind_numbered : ℕ → Option EntryKind
kind_numbered n =
    if n == 0 then Some Allow
    else if n == 1 then Some Deny
    else if n == 2 then Some Audit
    else if n == 3 then Some Alarm
    else None

-- nfsace4
abbrev pub ace_of : EntryLine → Value ace
ace_of e = (kind_number e.kind, (e.flags, (e.mask, e.who)))

-- An ACE that can be written as text: it has one of the four types, and its flags take two digits.
abbrev pub line_of : Value ace → Option EntryLine
line_of v =
    option_and_then
    (λ kind. if nat_lt v.1.0 256 then Some (record { kind = kind; flags = v.1.0; mask = v.1.1.0; who = v.1.1.1 })
    else None)
    (kind_numbered v.0)

abbrev pub text_of : Value ace → Option (List ℕ)
text_of v = option_map entry_text (line_of v)

-- ACEs as lines, each with a newline after it
abbrev pub list_text : List (Value ace) → Option (List ℕ)
list_text values = lines_of 10 text_of values

-- ---- setting an ACL

-- texts that can be read, and the ACEs that are sent
abbrev pub AreRead : List (List ℕ) → List (Value ace) → Type 0
AreRead texts values = (lines : List EntryLine) × (map entry_in texts ≡ map Some lines) × (values ≡ map ace_of lines)

-- one of the texts can't be read
abbrev pub SomeUnread : List (List ℕ) → Type 0
SomeUnread texts = (text : List ℕ) × Contains texts text × (entry_in text ≡ None)

abbrev pub EntriesGive : {X : Type 0} → (X → List (Value ace)) → List (List ℕ) → Result X ToolFault → Type 0
EntriesGive values texts (Ok x) = AreRead texts (values x)
EntriesGive values texts (Err Entry) = SomeUnread texts
EntriesGive values texts (Err Memory) = Unit {0}
EntriesGive values texts (Err fault) = ⊥

-- the path's names, and the operation at their end
abbrev pub SetAclAsks : AclPart → List ℕ → List (List ℕ) → List (List ℕ) → Operation → Type 0
SetAclAsks part path texts names op =
    (values : List (Value ace)) × (names_in path ≡ Some names) × (0 < length texts) × AreRead texts values
    × (op ≡ set_attributes (of_entries part values))

-- The path is read before the ACEs, and at least one ACE is required.
abbrev pub WrongAcl : List ℕ → List (List ℕ) → ToolFault → Type 0
WrongAcl path texts Path = names_in path ≡ None
WrongAcl path texts Entry =
    (names : List (List ℕ)) × (names_in path ≡ Some names) × ((length texts ≡ 0) ⊎ SomeUnread texts)
WrongAcl path texts fault = ⊥

-- ---- reading an ACL

abbrev pub attribute_of : AclPart → ℕ
attribute_of Acl = 12
attribute_of Dacl = 58
attribute_of Sacl = 59

-- the set of this attribute alone
abbrev pub IsAlone : AclPart → List ℕ → Type 0
IsAlone part set = (n : ℕ) → has_number set n ≡ (n == attribute_of part)

-- the path's names, and the operation at their end
abbrev pub GetAclAsks : AclPart → List ℕ → List (List ℕ) → Operation → Type 0
GetAclAsks part path names op =
    (set : List ℕ) × (names_in path ≡ Some names) × IsAlone part set × (op ≡ Known kinds.GetAttr set)

-- the ACEs among the returned attributes, without the flags of a part
abbrev pub entries_of : AclPart → Seen → Option (List (Value ace))
entries_of Acl seen = seen.entries
entries_of Dacl seen = option_map (λ a. a.1) seen.dacl
entries_of Sacl seen = option_map (λ a. a.1) seen.sacl

abbrev pub list_in : AclPart → Result Seen XdrFault → Option (List (Value ace))
list_in part (Ok seen) = entries_of part seen
list_in part (Err fault) = None

-- the ACL as text
abbrev pub acl_of : AclPart → Outcome → Option (List ℕ)
acl_of part (Done kinds.GetAttr v) = option_and_then list_text (list_in part (seen_of v.0 v.1))
acl_of part _ = None

abbrev pub acl_in : AclPart → List Outcome → Option (List ℕ)
acl_in part results = option_and_then (acl_of part) (last_of results)

-- the lines are appended to the earlier ones
abbrev pub PutsList : List ℕ → List ℕ → List (Value ace) → Result (Unit {0}) ToolFault → Type 0
PutsList old new values (Ok done) = (text : List ℕ) × (list_text values ≡ Some text) × (new ≡ old ++ text)
PutsList old new values (Err Reply) = list_text values ≡ None
PutsList old new values (Err Memory) = Unit {0}
PutsList old new values (Err fault) = ⊥
