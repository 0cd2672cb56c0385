-- Whether a book has members, by the groups of two callers of one user.
use Rattle.std.proofs.Common.{◌≡◌, refl, [], Option, Some, None, is_some}
use Rattle.std.specs.Str.{bytes_eq}
use Rattle.std.proofs.lemmas.Slice.Eq.{bytes_eq-Decides}
use Rattle.rpc_record.specs.Identity.{identity}
use Rattle.who_book.specs.Content.{Content, Memberships}
use Rattle.who_book.specs.Members.{groups_at, groups_by, member}

by_members : (m : Option Memberships) → bytes_eq (groups_by m (identity 0 0 [])) (groups_by m (identity 0 1 [])) ≡ is_some m
by_members None = refl
by_members (Some ms) = (bytes_eq-Decides (groups_at 0 ms) (groups_at 0 ms)).1 refl

-- by a book with members both have the groups of its user; without, each has the group that it sent
pub members_differ : (book : Content) → bytes_eq (member book (identity 0 0 [])).groups (member book (identity 0 1 [])).groups ≡ is_some book.members
unfolding member
members_differ book = by_members book.members
