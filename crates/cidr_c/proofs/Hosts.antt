-- The ends of walks over hosts of either family.
use Rattle.std.proofs.Common.{◌≡◌, ◌∷◌, ◌++◌, [], List}
use Rattle.cidr.specs.model.Host.{Host}
use Rattle.cidr.specs.either.IpHost.{host_address, host_family, host_parts}
use Rattle.cidr.specs.declared.family.Family.{Family}
use Rattle.cidr.specs.declared.inet.combined.IpInet.{IpInet}
use Rattle.cidr.specs.declared.inet.combined.IpInet.TheVariants.{V4, V6}
use Rattle.cidr_c.specs.model.Networks.{IsFirstHost, IsLastHost}

pub first_host : (host : IpInet) (hosts rest : List (Family × Host)) → hosts ≡ (host_family host, host_parts host) ∷ rest
    → IsFirstHost hosts (host_address host)
first_host (V4 h) hosts rest e = (h.len, rest, e)
first_host (V6 h) hosts rest e = (h.len, rest, e)

pub last_host : (host : IpInet) (hosts rest : List (Family × Host)) → hosts ≡ rest ++ (host_family host, host_parts host) ∷ []
    → IsLastHost hosts (host_address host)
last_host (V4 h) hosts rest e = (h.len, rest, e)
last_host (V6 h) hosts rest e = (h.len, rest, e)
