-- When a value that is out of range gets a sentence.
use Rattle.std.specs.Prelude.{◌≡◌, ◌&&◌, ℕ, ℤ, Bool, true, false, List, codes, Option, Some, None}
use Rattle.toml.specs.Data.{Members}
use Rattle.who_book.specs.Content.{is_domain}
use Rattle.who_book.specs.Document.{is_up_to, integer_at}

-- a sentence is given if and only if something isn't right
abbrev pub Reports : {X : Type 0} → Bool → Option X → Type 0
Reports right None = right ≡ true
Reports right (Some words) = right ≡ false

-- a value that is missing, or has another type, isn't out of range
abbrev pub is_right_number : ℕ → Option ℤ → Bool
is_right_number limit None = true
is_right_number limit (Some n) = is_up_to limit n

abbrev pub is_right_domain : Option (List ℕ) → Bool
is_right_domain None = true
is_right_domain (Some text) = is_domain text

-- the owner, the group and the mode of the root are in range; 4095 is 07777 in octal
abbrev pub are_right_settings : Members → Bool
are_right_settings document =
    is_right_number 4294967295 (integer_at (codes "root_owner") document)
    && (is_right_number 4294967295 (integer_at (codes "root_group") document)
    && is_right_number 4095 (integer_at (codes "root_mode") document))
