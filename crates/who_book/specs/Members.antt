-- The groups that a book gives its users, in place of those that they send.
use Rattle.std.specs.Prelude.{ℕ, nat_le, Bool, false, not, ◌&&◌, ◌||◌, if◌then◌else◌, List, [], ◌∷◌, map, length}
use Rattle.std.specs.Prelude.{Option, Some, None, unwrap_or}
use Rattle.std.specs.List.{list_any, list_all, filter_map}
use Rattle.std.specs.Bool.{nat_eq}
use Rattle.std.specs.Map.{lookup}
use Rattle.std.specs.Option.{is_some}
use Rattle.std.specs.Str.{bytes_eq}
use Rattle.rpc_record.specs.Identity.{Identity, has_group, group_set}
use Rattle.who_book.specs.Content.{Content, Memberships}
use Rattle.who_book.specs.Names.{Rows, number_at}

-- The caller by a book's memberships

-- the caller's gid if it is one of its groups, else the least of them, which is the first, else 65534
abbrev pub gid_among : List ℕ → ℕ → ℕ
gid_among [] gid = 65534
gid_among (least ∷ groups) gid = if has_group (least ∷ groups) gid then gid else least

-- the groups of a user by its number; none if the number has no name
abbrev pub groups_at : ℕ → Memberships → List ℕ
groups_at uid members = unwrap_or (lookup (nat_eq uid) members) []

abbrev pub gid_by : Option Memberships → Identity → ℕ
gid_by None caller = caller.gid
gid_by (Some members) caller = gid_among (groups_at caller.uid members) caller.gid

abbrev pub groups_by : Option Memberships → Identity → List ℕ
groups_by None caller = caller.groups
groups_by (Some members) caller = groups_at caller.uid members

-- the caller as sent if the book has no memberships, else its user with the groups that these give it
unfoldable pub member : Content → Identity → Identity
member book caller = record {
  uid = caller.uid;
  gid = gid_by book.members caller;
  groups = groups_by book.members caller;
}

-- The memberships of a document

-- the name of each group of the key `members`, and the names of the users in its array
abbrev pub Rolls : Type 0
Rolls = List (List ℕ × List (List ℕ))

abbrev pub is_among : List (List ℕ) → List ℕ → Bool
is_among names name = list_any (bytes_eq name) names

-- the numbers of the groups whose array has the user's name
abbrev pub numbers_with : Rows → Rolls → List ℕ → List ℕ
numbers_with groups rolls user =
    filter_map (λ roll. if is_among roll.1 user then number_at roll.0 groups else None) rolls

-- the memberships of the users of a book by the rolls
abbrev pub memberships : Rows → Rows → Rolls → Memberships
memberships users groups rolls = map (λ user. (user.1, group_set (numbers_with groups rolls user.0))) users

-- The rolls that are refused

-- some name occurs twice
abbrev pub has_duplicate : List (List ℕ) → Bool
has_duplicate [] = false
has_duplicate (name ∷ names) = is_among names name || has_duplicate names

abbrev pub is_named : Rows → List ℕ → Bool
is_named rows name = is_some (number_at name rows)

-- each name is a user's, and none occurs twice
abbrev pub are_users : Rows → List (List ℕ) → Bool
are_users users names = list_all (is_named users) names && not (has_duplicate names)

-- the book has the group and the users of its array
abbrev pub is_roll : Rows → Rows → List ℕ × List (List ℕ) → Bool
is_roll users groups roll = is_named groups roll.0 && are_users users roll.1

-- each roll has a group and users of the book, and no user is in more than 17 groups
abbrev pub are_rolls : Rows → Rows → Rolls → Bool
are_rolls users groups rolls =
    list_all (is_roll users groups) rolls
    && list_all (λ user. nat_le (length user.1) 17) (memberships users groups rolls)
