-- Access control lists (ACLs) that are read by access control entry (ACE).
use Rattle.std.proofs.Common.{◌≡◌, ℕ, List, [], ◌∷◌, ◌++◌, Result, Ok, Err, refl, sym, ap}
use Rattle.std.proofs.lemmas.List.{append_assoc}
use Rattle.acl_list.specs.declared.entry.Entry.{Entry}
use Rattle.acl_words.specs.Lists.{entry_then}
use Rattle.acl_words.specs.declared.field.Field.{Field}

-- ACEs with those of the rest after them
abbrev pub with_prefix : List Entry → Result (List Entry) (ℕ × Field) → Result (List Entry) (ℕ × Field)
with_prefix entries (Ok more) = Ok (entries ++ more)
with_prefix entries (Err fault) = Err fault

pub prefix_more : (entries : List Entry) (index : ℕ) (e : Entry) (rest : Result (List Entry) (ℕ × Field))
    → with_prefix entries (entry_then index (Ok e) rest) ≡ with_prefix (entries ++ e ∷ []) rest
prefix_more entries index e (Ok more) = ap (λ (l : List Entry). Ok l) (sym (append_assoc entries (e ∷ []) more))
prefix_more entries index e (Err fault) = refl
