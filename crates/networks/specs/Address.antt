-- The bits of an address, as a number.
use Rattle.std.specs.Prelude.{◌-◌, ◌/◌, ◌%◌, ◌^◌, ◌==◌, ℕ, Bool, [], ◌∷◌, take, if◌then◌else◌}
use Rattle.std.specs.Int.{w32, w128, from_be_bytes}
use Rattle.std.specs.Str.{bytes_eq}
use Rattle.std.specs.Net.Addr.{ipv4_octets, ipv6_octets, ipv6_segments, low_octets}
use Rattle.std.specs.declared.net.ip_addr.IpAddr.{IpAddr}
use Rattle.std.specs.declared.net.ip_addr.IpAddr.TheVariants.{V4, V6}
use Rattle.std.specs.declared.net.ipv6_addr.Ipv6Addr.{Ipv6Addr}

-- ::ffff:a.b.c.d, which counts as the IPv4 address a.b.c.d (RFC 4291, section 2.5.5.2)
abbrev pub is_mapped : Ipv6Addr → Bool
is_mapped a = bytes_eq (take 6 (ipv6_segments a)) (0 ∷ 0 ∷ 0 ∷ 0 ∷ 0 ∷ 0xffff ∷ [])

-- the number of bits of an address: 32 for IPv4, 128 for IPv6
unfoldable pub width_of : IpAddr → ℕ
width_of (V4 a) = 32
width_of (V6 a) = if is_mapped a then 32 else 128

-- its bits as a number, the first bit the highest
unfoldable pub bits_of : IpAddr → ℕ
bits_of (V4 a) = from_be_bytes w32 (ipv4_octets a)
bits_of (V6 a) = if is_mapped a then from_be_bytes w32 (low_octets a) else from_be_bytes w128 (ipv6_octets a)

-- the first n bits of an address, as a number
abbrev pub first_bits : IpAddr → ℕ → ℕ
first_bits a n = bits_of a / 2 ^ (width_of a - n)

-- the bits after the first n, as a number
abbrev pub bits_after : IpAddr → ℕ → ℕ
bits_after a n = bits_of a % 2 ^ (width_of a - n)

-- 127.0.0.0/8 (RFC 1122, section 3.2.1.3) and ::1 (RFC 4291, section 2.5.3)
abbrev pub is_loopback : IpAddr → Bool
is_loopback a = if width_of a == 32 then first_bits a 8 == 127 else bits_of a == 1
