-- Names of a directory's entries, component4 (RFC 8881, sections 1.8.1 and 14).
use Rattle.std.specs.Prelude.{ℕ, Bool, false, ◌==◌, ◌&&◌, ◌||◌, not, nat_lt, if◌then◌else◌, List, [], ◌∷◌, length}
use Rattle.std.specs.Prelude.{Option, Some, None}
use Rattle.std.specs.List.{list_any}
use Rattle.std.specs.Str.{is_utf8}
use Rattle.nfs_types.specs.declared.status.Status.{Status}
use Rattle.nfs_types.specs.declared.status.Status.TheVariants.{Inval, NameTooLong, BadChar, BadName}

-- the largest number of bytes of a name (the attribute maxname)
abbrev pub MAX_NAME : ℕ
MAX_NAME = 255

-- `/` and NUL
abbrev pub separates : ℕ → Bool
separates byte = (byte == 47) || (byte == 0)

-- `.` and `..`
abbrev pub is_dots : List ℕ → Bool
is_dots [] = false
is_dots (a ∷ []) = a == 46
is_dots (a ∷ b ∷ []) = (a == 46) && (b == 46)
is_dots (a ∷ b ∷ c ∷ bytes) = false

-- the first fault of a name, if it has one
abbrev pub name_fault : List ℕ → Option Status
name_fault name =
    if length name == 0 then Some Inval
    else if nat_lt MAX_NAME (length name) then Some NameTooLong
    else if not (is_utf8 name) then Some Inval
    else if list_any separates name then Some BadChar
    else if is_dots name then Some BadName
    else None
