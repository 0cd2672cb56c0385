-- The texts of users, groups and principals (RFC 8881, sections 5.9 and 6.2.1.5).
use Rattle.std.specs.Prelude.{◌≡◌, ◌⊎◌, ℕ, ◌+◌, ◌-◌, ◌*◌, ◌<◌, ◌^◌, ◌==◌, nat_lt, Bool, true, false, not, ◌&&◌}
use Rattle.std.specs.Prelude.{if◌then◌else◌, List, [], ◌∷◌, ◌++◌, codes, decimal, Option, Some, None, option_map}
use Rattle.std.specs.List.{find}
use Rattle.std.specs.Option.{option_or}
use Rattle.std.specs.Str.{bytes_eq, all_ascii_digits}
use Rattle.acl_list.specs.Mask.{has_bit}
use Rattle.acl_list.specs.declared.entry.Who.{Who}
use Rattle.acl_list.specs.declared.entry.Who.TheVariants.{Owner, Group, Everyone, User, GroupOf}
use Rattle.who_book.specs.Content.{Content, table_of}
use Rattle.who_book.specs.Names.{Rows, name_at}
use Rattle.who_book.specs.declared.kind.NameKind.{NameKind}
use Rattle.who_book.specs.declared.kind.NameKind.TheVariants as kinds

-- the number of decimal digits that follow those of n
abbrev pub value_after : ℕ → List ℕ → ℕ
value_after n [] = n
value_after n (digit ∷ digits) = value_after (10 * n + (digit - 48)) digits

-- at least one digit, and the first is 0 only in the number 0
abbrev pub is_short : List ℕ → Bool
is_short [] = false
is_short (digit ∷ []) = true
is_short (digit ∷ next ∷ digits) = not (digit == 48)

-- the number of 32 bits that a text represents in decimal digits without leading zeros
abbrev pub number_in : List ℕ → Option ℕ
number_in text =
    if (all_ascii_digits text && is_short text) && nat_lt (value_after 0 text) 4294967296
    then Some (value_after 0 text)
    else None

-- a name with @ and the domain
abbrev pub full_name : List ℕ → List ℕ → List ℕ
full_name name domain = name ++ 64 ∷ domain

-- the number whose full name the text is
abbrev pub named_in : Rows → List ℕ → List ℕ → Option ℕ
named_in rows domain text = option_map (λ row. row.1) (find (λ row. bytes_eq text (full_name row.0 domain)) rows)

-- the user or the group of a text
unfoldable pub principal_in : NameKind → Content → List ℕ → Option ℕ
principal_in kind book text = option_or (number_in text) (named_in (table_of kind book) book.domain text)

abbrev pub text_for : Option (List ℕ) → List ℕ → ℕ → List ℕ
text_for None domain number = decimal number
text_for (Some name) domain number = full_name name domain

-- the text of a user or a group: the full name if the book has one, else digits
unfoldable pub principal_text : NameKind → Content → ℕ → List ℕ
principal_text kind book number = text_for (name_at number (table_of kind book)) book.domain number

-- the texts that are read as a user or group
abbrev pub Spells : NameKind → Content → List ℕ → ℕ → Type 0
Spells kind book text number =
    ((number < 2 ^ 32) × (text ≡ decimal number))
    ⊎ ((name : List ℕ) × (name_at number (table_of kind book) ≡ Some name) × (text ≡ full_name name book.domain))

-- IDENTIFIER_GROUP is the bit 0x40
abbrev pub kind_of : ℕ → NameKind
kind_of flags = if has_bit flags 6 then kinds.Group else kinds.User

abbrev pub named_principal : NameKind → ℕ → Who
named_principal kinds.User number = User number
named_principal kinds.Group number = GroupOf number

-- the special identifiers, by their exact bytes
abbrev pub special_in : List ℕ → Option Who
special_in text =
    if bytes_eq text (codes "OWNER@") then Some Owner
    else if bytes_eq text (codes "GROUP@") then Some Group
    else if bytes_eq text (codes "EVERYONE@") then Some Everyone
    else None

-- the principal of a text under the flags of an access control entry (ACE)
unfoldable pub ace_principal_in : ℕ → Content → List ℕ → Option Who
ace_principal_in flags book text =
    option_or (special_in text) (option_map (named_principal (kind_of flags)) (principal_in (kind_of flags) book text))

-- the text of a principal
abbrev pub ace_principal_text : Content → Who → List ℕ
ace_principal_text book Owner = codes "OWNER@"
ace_principal_text book Group = codes "GROUP@"
ace_principal_text book Everyone = codes "EVERYONE@"
ace_principal_text book (User number) = principal_text kinds.User book number
ace_principal_text book (GroupOf number) = principal_text kinds.Group book number

-- an ACE with these flags can have the principal: a group has IDENTIFIER_GROUP and a user hasn't
abbrev pub IsUnder : ℕ → Who → Type 0
IsUnder flags (User number) = (number < 2 ^ 32) × (has_bit flags 6 ≡ false)
IsUnder flags (GroupOf number) = (number < 2 ^ 32) × (has_bit flags 6 ≡ true)
IsUnder flags _ = Unit {0}

-- the texts that are read as a principal under an ACE's flags
abbrev pub SpellsPrincipal : ℕ → Content → List ℕ → Who → Type 0
SpellsPrincipal flags book text Owner = text ≡ codes "OWNER@"
SpellsPrincipal flags book text Group = text ≡ codes "GROUP@"
SpellsPrincipal flags book text Everyone = text ≡ codes "EVERYONE@"
SpellsPrincipal flags book text (User number) = (has_bit flags 6 ≡ false) × Spells kinds.User book text number
SpellsPrincipal flags book text (GroupOf number) = (has_bit flags 6 ≡ true) × Spells kinds.Group book text number
