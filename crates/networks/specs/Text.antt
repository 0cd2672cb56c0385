-- Networks as text: an address, or an address, a slash and the length of the prefix in decimal digits.
use Rattle.std.specs.Prelude.{◌≡◌, ◌≢◌, ◌<◌, ◌≤◌, ◌==◌, ℕ, Bool, List, Option, Some, None, length, nat_lt}
use Rattle.std.specs.Prelude.{if◌then◌else◌}
use Rattle.std.specs.Prelude.{IsSomeAnd, Result, Ok, Err, MatchResult}
use Rattle.std.specs.List.{after_first, before_first, position_or_len}
use Rattle.std.specs.Str.Parse.{IsNumeral, digits_value}
use Rattle.std.specs.Net.Grammar.{IsIpText, IsNumber}
use Rattle.std.specs.declared.net.ip_addr.IpAddr.{IpAddr}
use Rattle.networks.specs.Address.{bits_after, width_of}
use Rattle.networks.specs.declared.network.Network.{Network}
use Rattle.networks.specs.declared.reading.NetworkError.{NetworkError}
use Rattle.networks.specs.declared.reading.NetworkError.TheVariants.{NotAnAddress, NotANumber, TooLong, BitsAfterPrefix}

abbrev pub is_slash : ℕ → Bool
is_slash c = c == 47

-- the text before the first slash, or the whole text if it has no slash
abbrev pub address_part : List ℕ → List ℕ
address_part text = before_first is_slash text

-- the text after the first slash, if any
abbrev pub prefix_part : List ℕ → Option (List ℕ)
prefix_part text =
    if nat_lt (position_or_len is_slash text) (length text) then Some (after_first is_slash text) else None

-- n is the written length; without one, all bits of the address are the prefix
abbrev pub IsLength : Option (List ℕ) → ℕ → ℕ → Type 0
IsLength None width n = n ≡ width
IsLength (Some digits) width n = IsNumber 10 digits n

-- a length is written, and it isn't a number
abbrev pub IsNoNumber : Option (List ℕ) → Type 0
IsNoNumber written = IsSomeAnd written (λ digits. ¬ (IsNumeral 10 digits))

-- a length is written, and it is a number above the width
abbrev pub IsTooLong : Option (List ℕ) → ℕ → Type 0
IsTooLong written width = IsSomeAnd written (λ digits. IsNumeral 10 digits × (width < digits_value 10 digits))

-- the length of the prefix of an address of this width, or the fault
abbrev pub ReadsLength : Option (List ℕ) → ℕ → Result ℕ NetworkError → Type 0
ReadsLength written width (Ok n) = IsLength written width n × (n ≤ width)
ReadsLength written width (Err NotANumber) = IsNoNumber written
ReadsLength written width (Err (TooLong most)) = (most ≡ width) × IsTooLong written width
ReadsLength written width (Err NotAnAddress) = ⊥
ReadsLength written width (Err BitsAfterPrefix) = ⊥

-- the text writes the network
pub record Writes (text : List ℕ) (n : Network) : Type 0 where
  pub address : IsIpText (address_part text) n.address
  pub prefix : IsLength (prefix_part text) (width_of n.address) n.prefix

-- the text before the slash is an address with this property
abbrev pub AtAddress : List ℕ → (IpAddr → Type 0) → Type 0
AtAddress text P = (a : IpAddr) × IsIpText (address_part text) a × P a

-- the text writes no network, by this fault
abbrev pub HasFault : List ℕ → NetworkError → Type 0
HasFault text NotAnAddress = (a : IpAddr) → ¬ (IsIpText (address_part text) a)
HasFault text NotANumber = AtAddress text (λ a. IsNoNumber (prefix_part text))
HasFault text (TooLong most) = AtAddress text (λ a. (most ≡ width_of a) × IsTooLong (prefix_part text) (width_of a))
HasFault text BitsAfterPrefix = AtAddress text (λ a. (n : ℕ) × IsLength (prefix_part text) (width_of a) n
    × (n ≤ width_of a) × (bits_after a n ≢ 0))

-- the network that the text writes, or its fault
abbrev pub Reads : List ℕ → Result Network NetworkError → Type 0
Reads text r = MatchResult r (Writes text) (HasFault text)
