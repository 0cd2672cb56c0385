-- Which connections are served.
use Rattle.std.specs.Prelude.{◌&&◌, ◌||◌, Bool, not, List, nat_lt}
use Rattle.std.specs.List.{list_any}
use Rattle.std.specs.Net.Socket.{socket_ip, socket_port}
use Rattle.std.specs.declared.net.ip_addr.IpAddr.{IpAddr}
use Rattle.std.specs.declared.net.socket_addr.SocketAddr.{SocketAddr}
use Rattle.networks.specs.Address.{is_loopback}
use Rattle.networks.specs.Network.{is_in}
use Rattle.networks.specs.declared.network.Network.{Network}

-- the address is the machine's own, or is in one of the networks
abbrev pub is_named : List Network → IpAddr → Bool
is_named networks a = is_loopback a || list_any (λ n. is_in n a) networks

-- whether a connection from this address and port is served, by a listener that needs a privileged port or doesn't
abbrev pub is_admitted : List Network → Bool → SocketAddr → Bool
is_admitted networks privileged from =
    is_named networks (socket_ip from) && (not privileged || nat_lt (socket_port from) 1024)

-- A listener needs privileged ports if that is wanted. On an address that isn't loopback it also needs them unless any
-- port will do.
abbrev pub needs_privileged : IpAddr → Bool → Bool → Bool
needs_privileged a wanted any = wanted || (not (is_loopback a) && not any)
