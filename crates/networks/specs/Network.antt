-- The addresses of a network (RFC 4632, section 3.1; RFC 4291, section 2.3).
use Rattle.std.specs.Prelude.{◌==◌, ◌&&◌, Bool}
use Rattle.std.specs.declared.net.ip_addr.IpAddr.{IpAddr}
use Rattle.networks.specs.Address.{first_bits, width_of}
use Rattle.networks.specs.declared.network.Network.{Network}

-- whether an address is of the network's family, and begins with the bits of its prefix
abbrev pub is_in : Network → IpAddr → Bool
is_in n a = width_of n.address == width_of a && first_bits n.address n.prefix == first_bits a n.prefix
