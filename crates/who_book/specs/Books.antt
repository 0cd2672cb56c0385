-- The content of a `Book` of the program.
use Rattle.std.specs.Prelude.{ℕ, List, codes, Option, Some, None, option_map, String, string_bytes}
use Rattle.std.specs.declared.alloc.Global.{Global}
use Rattle.who_book.specs.Content.{Content}
use Rattle.who_book.specs.Indexes.{memberships_in}
use Rattle.who_book.specs.declared.book.Book.TheInside.{Inside}

-- the domain that is kept; `None` represents the domain of a server without a book
abbrev pub domain_of : Option (String Global) → List ℕ
domain_of None = codes "localdomain"
domain_of (Some domain) = string_bytes domain

abbrev pub content_in : Inside → Content
content_in book = record {
  domain = domain_of book.domain;
  root_owner = book.root_owner;
  root_group = book.root_group;
  root_mode = book.root_mode;
  users = book.users;
  groups = book.groups;
  members = option_map (memberships_in book.users) book.members;
}

-- the text that the book was read from, if any
abbrev pub text_in : Inside → Option (List ℕ)
text_in book = option_map string_bytes book.text
