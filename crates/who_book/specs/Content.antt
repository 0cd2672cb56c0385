-- The content of a book: a domain, the root's owner, group and mode, two tables of names, and the users of each group.
use Rattle.std.specs.Prelude.{◌≡◌, ℕ, ◌≤◌, Bool, true, List, [], Option, None, codes}
use Rattle.who_book.specs.Names.{Rows, IsTable, is_word}
use Rattle.who_book.specs.declared.kind.NameKind.{NameKind}
use Rattle.who_book.specs.declared.kind.NameKind.TheVariants.{User, Group}

-- the number of each user and the set of its groups, by rising number
abbrev pub Memberships : Type 0
Memberships = List (ℕ × List ℕ)

-- `members` is None if callers keep the groups that they send
pub record Content : Type 0 where
  pub domain : List ℕ
  pub root_owner : ℕ
  pub root_group : ℕ
  pub root_mode : ℕ
  pub users : Rows
  pub groups : Rows
  pub members : Option Memberships

abbrev pub is_domain : List ℕ → Bool
is_domain bytes = is_word 128 bytes

-- the bounds of each book; 4095 is 07777 in octal
pub record IsBook (book : Content) : Type 0 where
  pub domain_is_word : is_domain book.domain ≡ true
  pub mode_is_mode : book.root_mode ≤ 4095
  pub users_are_table : IsTable book.users
  pub groups_are_table : IsTable book.groups

-- without a book: the root's owner is 0, its group 0 and its mode 0755, and no number has a name
abbrev pub nameless : Content
nameless = record {
  domain = codes "localdomain";
  root_owner = 0;
  root_group = 0;
  root_mode = 493;
  users = [];
  groups = [];
  members = None;
}

-- the table of names of this kind
abbrev pub table_of : NameKind → Content → Rows
table_of User book = book.users
table_of Group book = book.groups
