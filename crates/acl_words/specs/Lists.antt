-- Access control lists (ACLs) as text: the first access control entry (ACE) that can't be read is the fault, by its
-- index from 0.
use Rattle.std.specs.Prelude.{◌≡◌, ℕ, ◌+◌, List, [], ◌∷◌, map, Result, Ok, Err}
use Rattle.acl_list.specs.declared.entry.Kind.{Kind}
use Rattle.acl_list.specs.declared.entry.Entry.{Entry}
use Rattle.who_book.specs.Content.{Content}
use Rattle.acl_words.specs.Entries.{entry_in}
use Rattle.acl_words.specs.declared.field.Field.{Field}
use Rattle.acl_words.specs.declared.lists.AclFault.{AclFault}
use Rattle.acl_words.specs.declared.lists.AclFault.TheVariants.{Entry as InEntry, Memory}

abbrev pub entry_then : ℕ → Result Entry Field → Result (List Entry) (ℕ × Field) → Result (List Entry) (ℕ × Field)
entry_then index (Err field) rest = Err (index, field)
entry_then index (Ok e) (Ok more) = Ok (e ∷ more)
entry_then index (Ok e) (Err fault) = Err fault

-- the ACEs from an index on
abbrev pub entries_from : ℕ → List (Result Entry Field) → Result (List Entry) (ℕ × Field)
entries_from index [] = Ok []
entries_from index (read ∷ more) = entry_then index read (entries_from (index + 1) more)

-- the ACL of texts
abbrev pub list_in : Kind → Content → List (List ℕ) → Result (List Entry) (ℕ × Field)
list_in object book texts = entries_from 0 (map (entry_in object book) texts)

-- the result of a reader that fails: the fault of the ACL, or out of memory
abbrev pub IsFault : Result (List Entry) (ℕ × Field) → AclFault → Type 0
IsFault entry_words (InEntry index field) = entry_words ≡ Err (index, field)
IsFault entry_words Memory = Unit {0}
