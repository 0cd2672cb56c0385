-- The types of access control entries (ACEs) by their numbers: acetype4 (RFC 8881, section 6.2.1.1).
use Rattle.std.specs.Prelude.{ℕ, ◌==◌, if◌then◌else◌, Option, Some, None}
use Rattle.acl_list.specs.declared.entry.EntryKind.{EntryKind}
use Rattle.acl_list.specs.declared.entry.EntryKind.TheVariants.{Allow, Deny, Audit, Alarm}

abbrev pub kind_number : EntryKind → ℕ
kind_number Allow = 0
kind_number Deny = 1
kind_number Audit = 2
kind_number Alarm = 3

-- the type with this number, if any
abbrev pub kind_of : ℕ → Option EntryKind
kind_of number =
    if number == 0 then Some Allow else if number == 1 then Some Deny else if number == 2 then Some Audit else if number
    == 3 then Some Alarm else None
