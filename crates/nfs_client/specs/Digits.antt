-- Numbers as hexadecimal and octal digits.
use Rattle.std.specs.Prelude.{ℕ, ◌+◌, ◌-◌, ◌*◌, ◌/◌, ◌%◌, nat_lt, nat_le, ◌&&◌, if◌then◌else◌, List, [], ◌∷◌, Option}
use Rattle.std.specs.Prelude.{Some, None, option_and_then}
use Rattle.std.specs.Int.{w32, to_be_bytes}
use Rattle.std.specs.List.{flat_map}

-- `0` to `9`, then `a` to `f`
abbrev pub hex_digit : ℕ → ℕ
hex_digit d = if nat_lt d 10 then 48 + d else 87 + d

-- the value of a hexadecimal digit, in either case
abbrev pub digit_in : ℕ → Option ℕ
digit_in b =
    if nat_le 48 b && nat_le b 57 then Some (b - 48)
    else if nat_le 97 b && nat_le b 102 then Some (b - 87)
    else if nat_le 65 b && nat_le b 70 then Some (b - 55)
    else None

-- two digits
abbrev pub hex_byte : ℕ → List ℕ
hex_byte n = hex_digit (n / 16) ∷ hex_digit (n % 16) ∷ []

abbrev pub byte_in : ℕ → ℕ → Option ℕ
byte_in high low = option_and_then (λ h. option_and_then (λ l. Some (16 * h + l)) (digit_in low)) (digit_in high)

-- eight digits, two for each byte, the highest byte first
abbrev pub hex_word : ℕ → List ℕ
hex_word n = flat_map hex_byte (to_be_bytes w32 n)

-- the value of an octal digit
abbrev pub octal_in : ℕ → Option ℕ
octal_in b = if nat_le 48 b && nat_le b 55 then Some (b - 48) else None

abbrev pub four_in : ℕ → ℕ → ℕ → ℕ → Option ℕ
four_in a b c d =
    option_and_then
    (λ w. option_and_then
    (λ x. option_and_then (λ y. option_and_then (λ z. Some (((w * 8 + x) * 8 + y) * 8 + z)) (octal_in d))
    (octal_in c))
    (octal_in b))
    (octal_in a)

-- a mode: one to four octal digits
abbrev pub mode_in : List ℕ → Option ℕ
mode_in (d ∷ []) = four_in 48 48 48 d
mode_in (c ∷ d ∷ []) = four_in 48 48 c d
mode_in (b ∷ c ∷ d ∷ []) = four_in 48 b c d
mode_in (a ∷ b ∷ c ∷ d ∷ []) = four_in a b c d
mode_in _ = None

-- the twelve bits of a mode as four octal digits
abbrev pub mode_digits : ℕ → List ℕ
mode_digits mode = (48 + mode / 512 % 8) ∷ (48 + mode / 64 % 8) ∷ (48 + mode / 8 % 8) ∷ (48 + mode % 8) ∷ []
