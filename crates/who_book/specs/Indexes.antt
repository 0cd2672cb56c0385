-- The two indexes of a table of names, and the index of the groups of its users.
use Rattle.std.specs.Prelude.{◌≡◌, ◌⊎◌, ◌≤◌, ℕ, Bool, true, false, if◌then◌else◌, List, [], length, map, Option, Some}
use Rattle.std.specs.Prelude.{None, option_map, unwrap_or, Result, Ok, Err, String, Vec, string_bytes}
use Rattle.std.specs.BTreeMap.{BTreeMap, get, is_at}
use Rattle.std.specs.declared.alloc.Global.{Global}
use Rattle.std.specs.Map.{values_of, lookup}
use Rattle.std.specs.Ordering.{nat_cmp}
use Rattle.rpc_record.specs.Identity.{with_group, group_set}
use Rattle.who_book.specs.Content.{Memberships}
use Rattle.who_book.specs.Document.{has_duplicates, agrees}
use Rattle.who_book.specs.Members.{Rolls, is_among, numbers_with, memberships, are_rolls}
use Rattle.who_book.specs.Names.{Rows, name_at, IsTable}
use Rattle.who_book.specs.declared.fault.BookFault.{BookFault}
use Rattle.who_book.specs.declared.fault.BookFault.TheVariants.{Twice, Member, Memory}

-- the table that the index by name represents
abbrev pub rows_in : List (Vec ℕ Global × ℕ) → Rows
rows_in entries = map (λ e. (e.0.items, e.1)) entries

-- the result of the index by number
abbrev pub name_in : BTreeMap ℕ (String Global) → ℕ → Option (List ℕ)
name_in names number = option_map string_bytes (get nat_cmp names number)

-- the two indexes: the rows are a table, and both find the same rows
pub record AreIndexes (numbers : BTreeMap (Vec ℕ Global) ℕ) (names : BTreeMap ℕ (String Global)) : Type 0 where
  pub table : IsTable (rows_in numbers.entries)
  pub both_ways : (number : ℕ) → name_in names number ≡ name_at number (rows_in numbers.entries)

abbrev pub Builds : Rows → Result Rows BookFault → Type 0
Builds rows (Ok built) = (built ≡ rows) × (has_duplicates (values_of rows) ≡ false)
Builds rows (Err fault) = (fault ≡ Memory) ⊎ ((fault ≡ Twice) × (has_duplicates (values_of rows) ≡ true))

-- the result of the index by uid: no groups if the index doesn't have the uid
abbrev pub groups_in : List (ℕ × List ℕ) → ℕ → List ℕ
groups_in index uid = unwrap_or (lookup (is_at (nat_cmp uid)) index) []

-- the groups of each user that the index represents
abbrev pub memberships_in : Rows → List (ℕ × List ℕ) → Memberships
memberships_in users index = map (λ user. (user.1, groups_in index user.1)) users

-- each uid in the index is that of a user of the book
abbrev pub KnowsMembers : Rows → Option (List (ℕ × List ℕ)) → Type 0
KnowsMembers users None = Unit {0}
KnowsMembers users (Some index) = (uid : ℕ) → name_at uid users ≡ None → groups_in index uid ≡ []

-- the groups of a user in the rolls, by its name
abbrev pub groups_with : Rows → Rolls → Option (List ℕ) → List ℕ
groups_with groups rolls None = []
groups_with groups rolls (Some user) = group_set (numbers_with groups rolls user)

-- a name is given, and is among these
abbrev pub is_listed : List (List ℕ) → Option (List ℕ) → Bool
is_listed names None = false
is_listed names (Some name) = is_among names name

-- exactly the users with these names are added to a group
abbrev pub AreAdded : Rows → ℕ → List (List ℕ) → (ℕ → List ℕ) → (ℕ → List ℕ) → Type 0
AreAdded users gid names before after =
    (uid : ℕ) → after uid ≡ (if is_listed names (name_at uid users) then with_group gid (before uid) else before uid)

-- a user whose name is among these is already in 17 groups
abbrev pub HasFull : Rows → List (List ℕ) → (ℕ → List ℕ) → Type 0
HasFull users names groups_of =
    (uid : ℕ) × ((is_listed names (name_at uid users) ≡ true) × (17 ≤ length (groups_of uid)))

abbrev pub Enrolls : Rows → Rows → Rolls → Result (List (ℕ × List ℕ)) BookFault → Type 0
Enrolls users groups rolls (Ok index) =
    ((uid : ℕ) → groups_in index uid ≡ groups_with groups rolls (name_at uid users))
    × (are_rolls users groups rolls ≡ true)
Enrolls users groups rolls (Err fault) = (fault ≡ Memory) ⊎ ((fault ≡ Member) × (are_rolls users groups rolls ≡ false))

-- the rolls of a key that may be missing agree with the tables
abbrev pub EnrollsAny : Rows → Rows → Option Rolls → Result (Option (List (ℕ × List ℕ))) BookFault → Type 0
EnrollsAny users groups rolls (Ok index) =
    (option_map (memberships_in users) index ≡ option_map (memberships users groups) rolls)
    × (KnowsMembers users index × (agrees users groups rolls ≡ true))
EnrollsAny users groups rolls (Err fault) = (fault ≡ Memory) ⊎ ((fault ≡ Member) × (agrees users groups rolls ≡ false))
