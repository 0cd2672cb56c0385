use Rattle.std.proofs.Common.{rules, ◌∙◌, ap, sym}
use Rattle.std.specs.Net.Addr.{IsIpv4Mapped, ipv4_bits, ipv6_segments}
use Rattle.networks.specs.Address.{bits_of, width_of}
use Rattle.networks.proofs.Mapped.{bits_of_mapped, bits_of_v6, width_of_mapped, width_of_v6}
use Rattle.networks.proofs.address.Bits.of.Goals as goal

pub returns-in-V4-clause-width : goal.returns-in-V4-clause-width
unfolding width_of
returns-in-V4-clause-width c = rw c.in-V4.is (c.of_v4.ensures.0)

pub returns-in-V4-clause-value : goal.returns-in-V4-clause-value
unfolding bits_of ipv4_bits
returns-in-V4-clause-value c = rw c.in-V4.is (c.of_v4.ensures.1)

pub returns-in-Some-clause-width : goal.returns-in-Some-clause-width
returns-in-Some-clause-width c =
    let mapped : IsIpv4Mapped (ipv6_segments c.in-V6.v6) = search rules in
    c.of_v4-in-Some.ensures.0 ∙ sym (ap width_of c.in-V6.is ∙ width_of_mapped c.in-V6.v6 mapped)

pub returns-in-Some-clause-value : goal.returns-in-Some-clause-value
returns-in-Some-clause-value c =
    let mapped : IsIpv4Mapped (ipv6_segments c.in-V6.v6) = search rules in
    c.of_v4-in-Some.ensures.1
    ∙ sym (ap bits_of c.in-V6.is ∙ bits_of_mapped c.in-V6.v6 c.in-Some.v4 mapped c.in-Some.ensures.value)

pub returns-in-None-clause-width : goal.returns-in-None-clause-width
returns-in-None-clause-width c =
    let plain : IsIpv4Mapped (ipv6_segments c.in-V6.v6) → ⊥ = search rules in
    c.of_v6.ensures.0 ∙ sym (ap width_of c.in-V6.is ∙ width_of_v6 c.in-V6.v6 plain)

pub returns-in-None-clause-value : goal.returns-in-None-clause-value
returns-in-None-clause-value c =
    let plain : IsIpv4Mapped (ipv6_segments c.in-V6.v6) → ⊥ = search rules in
    c.of_v6.ensures.1 ∙ sym (ap bits_of c.in-V6.is ∙ bits_of_v6 c.in-V6.v6 plain)
