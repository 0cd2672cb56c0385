-- The bits of IPv6 addresses, by whether they are IPv4-mapped.
use Rattle.std.proofs.Common.{◌≡◌, ◌∙◌, ap, sym, true, false, cond}
use Rattle.std.specs.Int.{w32, w128, from_be_bytes}
use Rattle.std.proofs.lemmas.Bool.{false_from_ne_true}
use Rattle.std.proofs.lemmas.Slice.Eq.{bytes_eq-Decides}
use Rattle.std.specs.Net.Addr.{IsIpv4Mapped, ipv4_bits, ipv4_octets, ipv6_bits, ipv6_octets, ipv6_segments, low_octets}
use Rattle.std.specs.declared.net.ipv4_addr.Ipv4Addr.{Ipv4Addr}
use Rattle.std.specs.declared.net.ipv6_addr.Ipv6Addr.{Ipv6Addr}
use Rattle.std.specs.declared.net.ip_addr.IpAddr.TheVariants.{V6}
use Rattle.networks.specs.Address.{bits_of, is_mapped, width_of}

test_true : (a : Ipv6Addr) → IsIpv4Mapped (ipv6_segments a) → is_mapped a ≡ true
test_true a is = (bytes_eq-Decides _ _).1 is

test_false : (a : Ipv6Addr) → (IsIpv4Mapped (ipv6_segments a) → ⊥) → is_mapped a ≡ false
test_false a not = false_from_ne_true (is_mapped a) (λ e. not ((bytes_eq-Decides _ _).0 e))

pub width_of_mapped : (a : Ipv6Addr) → IsIpv4Mapped (ipv6_segments a) → width_of (V6 a) ≡ 32
unfolding width_of
width_of_mapped a is = ap (λ b. cond b 32 128) (test_true a is)

pub width_of_v6 : (a : Ipv6Addr) → (IsIpv4Mapped (ipv6_segments a) → ⊥) → width_of (V6 a) ≡ 128
unfolding width_of
width_of_v6 a not = ap (λ b. cond b 32 128) (test_false a not)

pub bits_of_mapped : (a : Ipv6Addr) (v4 : Ipv4Addr) → IsIpv4Mapped (ipv6_segments a) → ipv4_octets v4 ≡ low_octets a
    → bits_of (V6 a) ≡ ipv4_bits v4
unfolding bits_of ipv4_bits
bits_of_mapped a v4 is low =
    ap (λ b. cond b (from_be_bytes w32 (low_octets a)) (from_be_bytes w128 (ipv6_octets a))) (test_true a is)
    ∙ ap (from_be_bytes w32) (sym low)

pub bits_of_v6 : (a : Ipv6Addr) → (IsIpv4Mapped (ipv6_segments a) → ⊥) → bits_of (V6 a) ≡ ipv6_bits a
unfolding bits_of ipv6_bits
bits_of_v6 a not =
    ap (λ b. cond b (from_be_bytes w32 (low_octets a)) (from_be_bytes w128 (ipv6_octets a))) (test_false a not)
